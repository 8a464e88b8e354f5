use Rattle.std.proofs.Common.{sym, subst, ◌∙◌}
use Rattle.sf_checker.proofs.Common.{Judged, IsFound}
use Rattle.sf_checker.proofs.Judged.{judged-yes, judged-bound}
use Rattle.sf_checker.proofs.judge.Judge.answer.Goals as goal

pub returns-in-None : goal.returns-in-None
returns-in-None c design value part cert blocks cost bound found =
    let judge : Judged = record { walk = c.self.inside.walk; found = c.self.inside.found } in
    judged-yes design value part cert judge blocks c.in-None.is (subst (IsFound design value part cert cert.tags) (sym c.self.view_is) found) c.args.cost c.args.bound cost bound c.decided.result (sym c.low.ensures ∙ c.if-low-bound.true) c.decided.ensures

pub returns-in-None-2 : goal.returns-in-None-2
returns-in-None-2 c design value part cert blocks cost bound found =
    let judge : Judged = record { walk = c.self.inside.walk; found = c.self.inside.found } in
    judged-bound design value part cert judge blocks c.in-None-2.is (subst (IsFound design value part cert cert.tags) (sym c.self.view_is) found) c.args.cost c.args.bound cost bound c.low-in-None-2.result c.low-in-None-2.ensures
    (λ e. c.if-low-bound.false (c.low.ensures ∙ sym c.low-in-None-2.ensures ∙ sym e))
