-- Bounds of a weighed cost.
use Rattle.std.proofs.Common.{◌≡◌, ℕ, ◌*◌, ◌^◌, ◌<◌, ◌≤◌, List, All, arith}
use Rattle.std.proofs.Math.Nat.{mul-le-mul}
use Rattle.std.proofs.lemmas.List.Elements.{recursion_from_All}
use Rattle.sf_wire.proofs.Common.{Design, Spot, right_end, upper_end, LiesIn}
use Rattle.sf_wire.proofs.Ends.{right_end_most, upper_end_most}

-- a placement in the outline whose wire is short has a small cost
pub record IsSmall (area w h wire length : ℕ) : Type 0 where
  pub size : w * h ≤ 2 ^ 40
  pub areas : area * (w * h) ≤ 65535 * 2 ^ 40
  pub wires : wire * length ≤ 65535 * 2 ^ 47

-- area and wires of a legal placement, each times its weight, are a machine number
pub small : (design : Design) (spots : List Spot) (area w h wire length : ℕ) → All (LiesIn design.outline) spots → area ≡ design.weights.area → w ≡ right_end spots → h ≡ upper_end spots → wire ≡ design.weights.wire → length < 2 ^ 47 → IsSmall area w h wire length
small design spots area w h wire length inside a r u b e =
    let each = recursion_from_All (LiesIn design.outline) spots inside in
    let c : w ≤ 2 ^ 20 = omega (arith, r, right_end_most design.outline spots each, design.limits.width.1) in
    let d : h ≤ 2 ^ 20 = omega (arith, u, upper_end_most design.outline spots each, design.limits.height.1) in
    let s : w * h ≤ 2 ^ 20 * 2 ^ 20 = mul-le-mul c d in
    let size : w * h ≤ 2 ^ 40 = omega (arith, s) in
    let weight : area ≤ 65535 = omega (arith, a, design.limits.area_weight) in
    let wire_weight : wire ≤ 65535 = omega (arith, b, design.limits.wire_weight) in
    let short : length ≤ 2 ^ 47 = omega (arith, e) in
    record { size = size; areas = mul-le-mul weight size; wires = mul-le-mul wire_weight short }
