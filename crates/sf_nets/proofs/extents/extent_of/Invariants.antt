use Rattle.std.proofs.Common.{◌≡◌, take}
use Rattle.sf_nets.proofs.Common.{fold, with_shape}
use Rattle.sf_nets.proofs.extents.extent_of.Given as goal

abbrev pub invariant-loop-shape : goal.invariant-loop-shape
invariant-loop-shape l = l.extent ≡ fold with_shape l.initial.extent (take l.shape-index l.rest)
