use Rattle.std.proofs.Common.{ℕ, ◌<◌}
use Rattle.sf_place.proofs.Common.{spot_of, LiesIn}
use Rattle.sf_place.proofs.verdict.first_outside.Given as goal

abbrev pub invariant-loop-block : goal.invariant-loop-block
invariant-loop-block l = (a : ℕ) → a < l.block → LiesIn l.outline (spot_of a l.spots)
