use Rattle.sf_nets.proofs.Common.{extent_in, Tells}
use Rattle.sf_nets.proofs.extents.fill_extents.Given as goal

abbrev pub invariant-loop-block : goal.invariant-loop-block
invariant-loop-block l = Tells (extent_in l.design l.node) l.block l.extents.items
