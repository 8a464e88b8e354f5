use Rattle.std.proofs.Common.{◌∙◌, ap, map, string_bytes}
use Rattle.sf_words.proofs.Common.{App, is_simple, subcommand_of, takes, token_of, IfErr-weaker, IfOk-weaker}
use Rattle.sf_words.proofs.Whole.{simple, taken, found}
use Rattle.sf_words.proofs.line.parse.Goals as goal

pub returns-clause-rows : goal.returns-clause-rows
returns-clause-rows c =
    let words = map string_bytes c.args.words.now in
    let app_is = c.in_ok-floorplan.ensures in
    let form = c.args.form.now in
    IfOk-weaker c.try_get_matches_from.result _ _
    (λ m h. (h (ap is_simple app_is ∙ simple)).1 ∙ (ap (λ (a : App). subcommand_of a words) app_is ∙ found words form.mode (map token_of form.settings.items) c.requires))
    c.try_get_matches_from.ensures.matches

pub returns-clause-memory : goal.returns-clause-memory
returns-clause-memory c =
    let words = map string_bytes c.args.words.now in
    let app_is = c.in_ok-floorplan.ensures in
    let form = c.args.form.now in
    IfErr-weaker c.try_get_matches_from.result _ _
    (λ e h. h (ap (λ (a : App). takes a words) app_is ∙ taken words form.mode (map token_of form.settings.items) c.requires))
    c.try_get_matches_from.ensures.passes
