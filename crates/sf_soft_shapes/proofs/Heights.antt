-- A wider block of the same area is no higher.
use Rattle.std.proofs.Common.{◌≡◌, ℕ, ◌+◌, ◌*◌, ◌<◌, ◌≤◌, arith}
use Rattle.sf_soft_shapes.proofs.Common.{div_ceil_times, height_at, IsLowEnough, IsHighEnough, mul-le-mul_left, mul-le-mul_right}

-- q * b is not below x where q * a reaches x, so that d passes q by nothing
past : (q d a b x : ℕ) → a ≤ b → x ≤ q * a → d * b < x + b → q < d → ⊥
past q d a b x le holds tight more =
    let up : q * a ≤ q * b = mul-le-mul_left q le in
    let next : (q + 1) * b ≤ d * b = (let s : q + 1 ≤ d = omega arith in mul-le-mul_right b s) in
    let e : (q + 1) * b ≡ q * b + b = omega arith in
    omega arith

-- the least multiple of a wider block that holds the area is no greater
least_multiple : (q d a b x : ℕ) → a ≤ b → x ≤ q * a → d * b < x + b → d ≤ q
least_multiple q d a b x le holds tight =
    let not_more : ¬ (q < d) = past q d a b x le holds tight in
    omega arith

-- a wider block of the same area is no higher
pub height_le : (area a b : ℕ) → 1 ≤ a → a ≤ b → height_at area b ≤ height_at area a
height_le area a b some le =
    let at_a = div_ceil_times area a (omega arith) in
    let at_b = div_ceil_times area b (omega arith) in
    least_multiple (height_at area a) (height_at area b) a b area le at_a.0 at_b.1

-- what is low enough at a width is so at each greater one
pub wide_up : (area most a b : ℕ) → 1 ≤ a → a ≤ b → IsLowEnough area most a → IsLowEnough area most b
wide_up area most a b some le wide =
    let low : height_at area b ≤ height_at area a = height_le area a b some le in
    let more : a * most ≤ b * most = mul-le-mul_right most le in
    let first = wide.height in
    let second = wide.below in
    record { height = omega arith; below = omega arith }

-- what is high enough at a width is so at each lesser one
pub narrow_down : (area least a b : ℕ) → 1 ≤ a → a ≤ b → IsHighEnough area least b → IsHighEnough area least a
narrow_down area least a b some le narrow =
    let low : height_at area b ≤ height_at area a = height_le area a b some le in
    let more : a * least ≤ b * least = mul-le-mul_right least le in
    omega arith
