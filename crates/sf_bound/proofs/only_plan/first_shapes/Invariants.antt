use Rattle.sf_bound.proofs.Common.{Tells, first_shape}
use Rattle.sf_bound.proofs.only_plan.first_shapes.Given as goal

abbrev pub invariant-loop-block : goal.invariant-loop-block
invariant-loop-block l = Tells (first_shape l.design l.node) l.block l.shapes.items
