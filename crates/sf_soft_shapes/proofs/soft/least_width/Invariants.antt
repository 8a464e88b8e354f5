use Rattle.std.proofs.Common.{ℕ, ◌+◌, ◌-◌, ◌^◌, ◌<◌, ◌≤◌}
use Rattle.sf_soft_shapes.proofs.Common.{IsLowEnough}
use Rattle.sf_soft_shapes.proofs.soft.least_width.Given as goal

abbrev pub invariant-loop-low : goal.invariant-loop-low
invariant-loop-low l = (1 ≤ l.low) × (l.low ≤ l.high) × (l.high ≤ 2 ^ 20 + 1) × ((w : ℕ) → 1 ≤ w → w < l.low → ¬ (IsLowEnough l.area l.most w)) × ((w : ℕ) → l.high ≤ w → w ≤ 2 ^ 20 → IsLowEnough l.area l.most w)

abbrev pub decreases-loop-low : goal.decreases-loop-low
decreases-loop-low l = l.high - l.low
