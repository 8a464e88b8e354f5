use Rattle.std.proofs.Common.{ℕ, ◌-◌, ◌^◌, ◌<◌, ◌≤◌}
use Rattle.sf_soft_shapes.proofs.Common.{IsHighEnough}
use Rattle.sf_soft_shapes.proofs.soft.greatest_width.Given as goal

abbrev pub invariant-loop-low : goal.invariant-loop-low
invariant-loop-low l = (l.low ≤ l.high) × (l.high ≤ 2 ^ 20) × ((w : ℕ) → 1 ≤ w → w ≤ l.low → IsHighEnough l.area l.least w) × ((w : ℕ) → l.high < w → w ≤ 2 ^ 20 → ¬ (IsHighEnough l.area l.least w))

abbrev pub decreases-loop-low : goal.decreases-loop-low
decreases-loop-low l = l.high - l.low
