-- What two sizes need that lie beside one another or above one another.
use Rattle.std.proofs.Common.{◌≡◌, ℕ, ◌+◌, ◌*◌, ◌≤◌, max, arith, ◌⊎◌, inl, inr, true, nat_lt}
use Rattle.sf_bound_kit.proofs.Common.{mul-le-mul, and_parts, ltb-true, Outline, Shape, area_of_two, have_no_room}

-- a product of lesser numbers is no greater
pub times : (a b m n : ℕ) → a ≤ m → b ≤ n → a * b ≤ m * n
times a b m n h k = mul-le-mul h k

-- two sizes within a width and a height, one beside the other or above it
pub record HaveRoom (w h : ℕ) (two : Shape × Shape) : Type 0 where
  pub first : (two.0.w ≤ w) × (two.0.h ≤ h)
  pub second : (two.1.w ≤ w) × (two.1.h ≤ h)
  pub apart : (two.0.w + two.1.w ≤ w) ⊎ (two.0.h + two.1.h ≤ h)

-- such sizes need no more than the area
pub area-le : (w h : ℕ) (two : Shape × Shape) → HaveRoom w h two → area_of_two two ≤ w * h
area-le w h two r =
    elim r.apart [
      | inl beside ↦ omega (arith, times (two.0.w + two.1.w) (max two.0.h two.1.h) w h beside (omega (arith, r.first.1, r.second.1)))
      | inr above ↦ omega (arith, times (two.0.h + two.1.h) (max two.0.w two.1.w) h w above (omega (arith, r.first.0, r.second.0)))
    ]

-- they pass no test of sizes without room
pub room-found : (outline : Outline) (w h : ℕ) (two : Shape × Shape) → w ≤ outline.w → h ≤ outline.h → HaveRoom w h two → have_no_room outline two ≡ true → ⊥
room-found outline w h two le_w le_h r e =
    let k = and_parts (nat_lt outline.w (two.0.w + two.1.w)) (nat_lt outline.h (two.0.h + two.1.h)) e in
    let wide = ltb-true outline.w (two.0.w + two.1.w) k.0 in
    let high = ltb-true outline.h (two.0.h + two.1.h) k.1 in
    elim r.apart [ inl beside ↦ omega (arith, wide, beside, le_w) | inr above ↦ omega (arith, high, above, le_h) ]

-- a size of at most 2^20 each way
abbrev pub IsSmall : Shape → Type 0
IsSmall s = (s.w ≤ 1048576) × (s.h ≤ 1048576)

-- two of them need at most 2^41
pub area-small : (two : Shape × Shape) → IsSmall two.0 → IsSmall two.1 → area_of_two two ≤ 2199023255552
area-small two a b = omega (arith, times (two.0.w + two.1.w) (max two.0.h two.1.h) 2097152 1048576 (omega (arith, a.0, b.0)) (omega (arith, a.1, b.1)))
