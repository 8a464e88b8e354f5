use Rattle.std.proofs.Common.{◌≡◌, ◌≢◌, ◌∙◌, sym, ap, codes, option_map, Some, IsTrue}
use Rattle.clap.specs.Words.{Text}
use Rattle.sf_words.proofs.Common.{found_of, first_of, rows_of, key_text, flag_text, texts_of}
use Rattle.clap.proofs.WalkLemmas.{first_value-rows}
use Rattle.sf_words.proofs.KeptTexts.{not_true, texts_in_value, texts_in_flag}
use Rattle.sf_words.proofs.parsed.Parsed.text.Goals as goal

pub returns-then-is_text : goal.returns-then-is_text
unfolding texts_of
returns-then-is_text c =
    let rows = rows_of (found_of c.args.self.now.options.now) in
    let text : option_map (λ s. s.now) c.get_str-text.result ≡ first_of (key_text c.args.key) rows = c.get_str-text.ensures ∙ (first_value-rows (found_of c.args.self.now.options.now) _ ∙ ap (λ (id : Text). first_of id rows) c.text.ensures) in
    let given = c.is_text.ensures.0 c.if-is_text.true in
    sym (texts_in_flag rows c.args.key (sym c.is_flag.ensures ∙ c.if-is_flag.true) (sym text) ∙ ap flag_text given)

pub returns-else-is_text : goal.returns-else-is_text
unfolding texts_of
returns-else-is_text c =
    let rows = rows_of (found_of c.args.self.now.options.now) in
    let text : option_map (λ s. s.now) c.get_str-text.result ≡ first_of (key_text c.args.key) rows = c.get_str-text.ensures ∙ (first_value-rows (found_of c.args.self.now.options.now) _ ∙ ap (λ (id : Text). first_of id rows) c.text.ensures) in
    let differs : option_map (λ s. s.now) c.get_str-text.result ≢ Some (codes "true") = λ e. let up : IsTrue c.is_text.result = c.is_text.ensures.1 e in let no = c.if-is_text.false in cc in
    sym (texts_in_flag rows c.args.key (sym c.is_flag.ensures ∙ c.if-is_flag.true) (sym text) ∙ not_true _ differs)

pub returns-else-is_flag : goal.returns-else-is_flag
unfolding texts_of
returns-else-is_flag c =
    let rows = rows_of (found_of c.args.self.now.options.now) in
    let text : option_map (λ s. s.now) c.get_str-text.result ≡ first_of (key_text c.args.key) rows = c.get_str-text.ensures ∙ (first_value-rows (found_of c.args.self.now.options.now) _ ∙ ap (λ (id : Text). first_of id rows) c.text.ensures) in
    text ∙ sym (texts_in_value rows c.args.key (sym c.is_flag.ensures ∙ c.if-is_flag.false))
