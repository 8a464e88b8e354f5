use Rattle.std.proofs.Common.{arith}
use Rattle.sf_curves.proofs.Shapes.{best_step}
use Rattle.sf_curves.proofs.picking.least_area_point.Goals as goal

pub loop-point-preserved : goal.loop-point-preserved
loop-point-preserved c =
    best_step c.args.points.now c.loop-point.point-index record { w = 0; h = 0 } c.lesser_of.result c.loop-point.best c.requires (omega arith) c.loop-point.invariant c.lesser_of.ensures
