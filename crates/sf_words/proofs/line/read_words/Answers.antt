use Rattle.std.proofs.Common.{map, string_bytes}
use Rattle.std.proofs.lemmas.Option.{IfSome_then}
use Rattle.sf_words.proofs.Common.{found_of, rows_of, mode_text, token_of, command_seen, rows_for, texts_of}
use Rattle.sf_words.proofs.Lookup.{none_weaker}
use Rattle.sf_words.proofs.FoundMeaning.{rows_same, means, has_none}
use Rattle.sf_words.proofs.line.read_words.Goals as goal

pub returns-in-Some-subcommand-clause-means : goal.returns-in-Some-subcommand-clause-means
unfolding texts_of
returns-in-Some-subcommand-clause-means c =
    let words = map string_bytes c.args.words.now in
    let mode = c.in-Some.form.mode in
    let tokens = map token_of c.in-Some.form.settings.items in
    let form = rw c.in-Some.is at c.in_ok-form.ensures.form in
    let rows = rows_same (rows_of (found_of c.in-Some-subcommand.options.now)) _ (mode_text mode) (rows_for mode tokens) c.in-Some-subcommand.ensures.rows c.in_ok-matches.ensures.rows in
    IfSome_then c.read_command.result c.read_command.ensures.command (λ r h. means mode tokens words _ (command_seen r) form rows h.0 h.1)

pub returns-in-Some-subcommand-clause-none : goal.returns-in-Some-subcommand-clause-none
unfolding texts_of
returns-in-Some-subcommand-clause-none c =
    let words = map string_bytes c.args.words.now in
    let mode = c.in-Some.form.mode in
    let tokens = map token_of c.in-Some.form.settings.items in
    let form = rw c.in-Some.is at c.in_ok-form.ensures.form in
    let rows = rows_same (rows_of (found_of c.in-Some-subcommand.options.now)) _ (mode_text mode) (rows_for mode tokens) c.in-Some-subcommand.ensures.rows c.in_ok-matches.ensures.rows in
    none_weaker c.read_command.result (λ none. has_none mode tokens words _ form rows none) c.read_command.ensures.none
