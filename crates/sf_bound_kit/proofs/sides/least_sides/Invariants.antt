use Rattle.std.proofs.Common.{◌≡◌, take}
use Rattle.sf_bound_kit.proofs.Common.{fold}
use Rattle.sf_bound_kit.proofs.Table.{with_least}
use Rattle.sf_bound_kit.proofs.sides.least_sides.Given as goal

abbrev pub invariant-loop-shape : goal.invariant-loop-shape
invariant-loop-shape l = l.least ≡ fold with_least l.initial.least (take l.shape-index l.rest)
