use Rattle.std.proofs.Common.{subst, arith}
use Rattle.sf_curves.proofs.Common.{take_all, AllPairs, IsNoLater}
use Rattle.sf_curves.proofs.Sorting.{in_order_more}
use Rattle.sf_curves.proofs.of_shapes.stand_in_order.Goals as goal

pub loop-shape-preserved : goal.loop-shape-preserved
loop-shape-preserved c =
    in_order_more c.args.shapes.now c.loop-shape.shape-index record { w = 0; h = 0 } c.loop-shape.last (omega arith) c.loop-shape.invariant
    (c.is_no_later.ensures.0 c.if-not-is_no_later.false)

pub returns : goal.returns
returns c _ = subst (AllPairs IsNoLater) (take_all c.loop-shape.shape-index c.args.shapes.now (omega arith)) c.loop-shape.invariant.1
