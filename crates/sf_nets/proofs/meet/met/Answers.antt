use Rattle.sf_nets.proofs.Common.{IsFitReach, Reach, shared}
use Rattle.std.proofs.Common.{sym, ap, subst, ◌∙◌}
use Rattle.sf_nets.proofs.PinLoops.{near_met}
use Rattle.sf_nets.proofs.meet.met.Goals as goal

pub returns-clause-near : goal.returns-clause-near
returns-clause-near c = λ first second.
    subst IsFitReach
    (sym (ap (λ v. (let r : Reach = record { across = v; upward = c.shared-2.result } in r)) c.shared.ensures
    ∙ ap (λ v. (let r : Reach = record { across = shared c.args.first.across c.args.second.across; upward = v } in r)) c.shared-2.ensures))
    (near_met c.args.first c.args.second first second)
