use Rattle.std.proofs.Common.{ℕ, ◌<◌}
use Rattle.sf_place.proofs.Common.{spot_of, IsListed}
use Rattle.sf_place.proofs.verdict.first_unlisted.Given as goal

abbrev pub invariant-loop-block : goal.invariant-loop-block
invariant-loop-block l = (a : ℕ) → a < l.block → IsListed l.design (spot_of a l.spots)
