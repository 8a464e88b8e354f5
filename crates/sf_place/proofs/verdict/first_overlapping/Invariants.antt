use Rattle.std.proofs.Common.{ℕ, ◌<◌}
use Rattle.sf_place.proofs.Common.{Overlaps, spot_of}
use Rattle.sf_place.proofs.verdict.first_overlapping.Given as goal

abbrev pub invariant-loop-later : goal.invariant-loop-later
invariant-loop-later l = (j : ℕ) → l.block < j → j < l.later → ¬ (Overlaps (spot_of l.block l.spots) (spot_of j l.spots))
