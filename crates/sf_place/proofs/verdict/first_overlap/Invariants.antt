use Rattle.std.proofs.Common.{ℕ, ◌<◌}
use Rattle.sf_place.proofs.Common.{OverlapsNoLater}
use Rattle.sf_place.proofs.verdict.first_overlap.Given as goal

abbrev pub invariant-loop-block : goal.invariant-loop-block
invariant-loop-block l = (i : ℕ) → i < l.block → OverlapsNoLater l.spots i
