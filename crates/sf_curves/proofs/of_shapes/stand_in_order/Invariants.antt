use Rattle.std.proofs.Common.{take}
use Rattle.sf_curves.proofs.Sorting.{AreInOrderUpTo}
use Rattle.sf_curves.proofs.of_shapes.stand_in_order.Given as goal

abbrev pub invariant-loop-shape : goal.invariant-loop-shape
invariant-loop-shape l = AreInOrderUpTo l.last (take l.shape-index l.shapes)
