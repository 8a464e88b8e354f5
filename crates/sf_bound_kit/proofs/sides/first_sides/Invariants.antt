use Rattle.std.proofs.Common.{◌≡◌, ℕ, ◌<◌, length, slice_index_or}
use Rattle.sf_bound_kit.proofs.Common.{Shape, sides_in}
use Rattle.sf_bound_kit.proofs.sides.first_sides.Given as goal

abbrev pub invariant-loop-block : goal.invariant-loop-block
invariant-loop-block l = (length l.sides ≡ 16) × ((b : ℕ) (d : Shape) → b < l.block → slice_index_or l.sides b d ≡ sides_in l.design l.node b)
