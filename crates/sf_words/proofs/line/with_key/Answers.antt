use Rattle.std.proofs.Common.{◌≡◌, false, Bool, ap, ◌∙◌, ◌||◌, rules}
use Rattle.sf_words.proofs.Common.{IfOk-weaker, or-false, out-Command}
use Rattle.sf_words.proofs.line.with_key.Goals as goal

pub returns-then-is_flag-clause-local : goal.returns-then-is_flag-clause-local
returns-then-is_flag-clause-local c =
    let old = (out-Command c.args.command).has_globals in
    let local : c.action.result.global ≡ false = search rules in
    IfOk-weaker c.arg.result _ _ (λ r h. h.globals ∙ (ap (λ (g : Bool). old || g) local ∙ or-false old)) c.arg.ensures

pub returns-else-is_flag-clause-local : goal.returns-else-is_flag-clause-local
returns-else-is_flag-clause-local c =
    let old = (out-Command c.args.command).has_globals in
    let local : c.long-arg.result.global ≡ false = search rules in
    IfOk-weaker c.arg-else-is_flag.result _ _ (λ r h. h.globals ∙ (ap (λ (g : Bool). old || g) local ∙ or-false old)) c.arg-else-is_flag.ensures
