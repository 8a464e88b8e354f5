use Rattle.std.proofs.Common.{sym, subst, IfSome}
use Rattle.sf_known.proofs.Common.{IsFloorplan}
use Rattle.sf_known.proofs.Beginning.{cheaper-holds, routed-start, walked-floorplan}
use Rattle.sf_known.proofs.starting.begin.Goals as goal

pub returns-clause-floorplan : goal.returns-clause-floorplan
returns-clause-floorplan g c =
    let known = c.in_ok-known.known in
    let walked = c.in_ok-walked.walked in
    routed-start c.args.bounds known.design c.in_ok-design.design c.cheaper-start.result c.in_ok-design.ensures
    (subst (λ s. IfSome s (λ plan. IsFloorplan known.design plan.0 plan.1)) (sym c.cheaper-start.ensures)
    (cheaper-holds (λ plan. IsFloorplan known.design plan.0 plan.1) walked known.plan (walked-floorplan c.args.bounds c.args.design known.design walked c.in_ok-known.ensures.knows c.in_ok-walked.ensures.floorplan) c.in_ok-known.ensures.floorplan))
