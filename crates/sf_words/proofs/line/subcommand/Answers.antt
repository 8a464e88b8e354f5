use Rattle.std.proofs.Common.{◌≡◌, ◌+◌, ◌++◌, ◌∷◌, [], ap, ◌∙◌, take, get_or}
use Rattle.sf_words.proofs.Common.{take_more, App, with_rule, Format, rule_of_key}
use Rattle.sf_words.proofs.Build.{with_keys-push}
use Rattle.sf_words.proofs.line.subcommand.Goals as goal

pub loop-key-preserved : goal.loop-key-preserved
loop-key-preserved c =
    let i = c.loop-key.key-index in
    let keys = c.keys-key-items.result.now in
    let more : take (i + 1) keys ≡ take i keys ++ get_or keys i Format ∷ [] = take_more keys i Format c.loop-key-test.true in
    let step = c.in_ok-command.ensures.app ∙ ap (λ (a : App). with_rule a (rule_of_key (get_or keys i Format))) c.loop-key.invariant.0 in
    (rw (more, with_keys-push) step, c.in_ok-command.ensures.local ∙ c.loop-key.invariant.1, c.keys-key-items.ensures)
