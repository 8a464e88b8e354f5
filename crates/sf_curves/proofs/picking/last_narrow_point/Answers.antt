use Rattle.std.proofs.Common.{arith, length, ◌-◌}
use Rattle.sf_curves.proofs.OnCurve.{lowest_at}
use Rattle.sf_curves.proofs.picking.last_narrow_point.Goals as goal

pub returns-then-point-limit : goal.returns-then-point-limit
returns-then-point-limit c =
    lowest_at c.args.limit c.args.points.now (length c.args.points.now - 1 - c.loop-back.back) record { w = 0; h = 0 } c.requires (omega arith)
    (λ k e lt in_list. c.loop-back.invariant k e (omega arith) in_list) c.if-point-limit.true
