-- The two ends of the allowed widths.
use Rattle.std.specs.Prelude.{ℕ, ◌*◌, ◌^◌, ◌≤◌}
use Rattle.sf_soft_shapes.specs.Listed.{height_at}

-- low enough, as each greater width then is
pub record IsLowEnough (area most w : ℕ) : Type 0 where
  pub height : height_at area w ≤ 2 ^ 20
  pub below : height_at area w * 1000000 ≤ w * most

-- high enough, as each lesser width then is
abbrev pub IsHighEnough : ℕ → ℕ → ℕ → Type 0
IsHighEnough area least w = w * least ≤ height_at area w * 1000000
