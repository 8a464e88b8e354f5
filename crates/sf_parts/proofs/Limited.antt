-- Admitted parts keep the limits.
use Rattle.std.proofs.Common.{◌≡◌, ℕ, zero, suc, ◌-◌, min, ℤ, nat_abs, IsTrue, ◌≤◌, ◌^◌, List, [], ◌∷◌, ◌++◌, length, get_or, Option, Some, None, refl, arith}
use Rattle.sf_parts.proofs.Common.{All, flat_map, sum_by, nat_tests, first, over, over_kind, over_place, over_counts, over_limits, over_places, name_faults, no_blocks, IsAdmitted, IsKindWithin, IsPlaceWithin, KeepsLimits, BuildFault, Parts, RawBlock, RawNet, RawPad}
use Rattle.sf_parts.specs.declared.fault.Limit.{Limit}
use Rattle.sf_parts.specs.declared.fault.Limit.TheVariants as limit
use Rattle.sf_parts.specs.declared.raw.Kind.{Kind}
use Rattle.sf_parts.specs.declared.raw.Kind.TheVariants as kind

-- where two lists together are empty, the first is
pub left_none : {X : Type 0} (xs ys : List X) → first (xs ++ ys) ≡ None → first xs ≡ None
left_none [] ys h = refl
left_none (x ∷ xs) ys h = h

-- where two lists together are empty, the second is
pub right_none : {X : Type 0} (xs ys : List X) → first (xs ++ ys) ≡ None → first ys ≡ None
right_none [] ys h = h
right_none (x ∷ xs) ys h = cc

-- a quantity without a fault keeps its limit
over_within : (q : Limit) (most found : ℕ) → first (over q most found) ≡ None → found ≤ most
over_within q most found h = grind (arith, nat_tests)

-- where no element has a fault, each by itself has none
each_none : {X : Type 0} (f : X → List BuildFault) (xs : List X) → first (flat_map f xs) ≡ None → All (λ x. first (f x) ≡ None) xs
each_none f [] h k d within = absurd (omega arith)
each_none f (x ∷ xs) h zero d within = left_none (f x) (flat_map f xs) h
each_none f (x ∷ xs) h (suc k) d within = each_none f xs (right_none (f x) (flat_map f xs) h) k d (omega arith)

-- a block without a fault keeps its limits
kind_within : (k : Kind) → first (over_kind k) ≡ None → IsKindWithin k
kind_within (kind.Hard w h) none = (over_within limit.Side (2 ^ 20) w (left_none (over limit.Side (2 ^ 20) w) (over limit.Side (2 ^ 20) h) none), over_within limit.Side (2 ^ 20) h (right_none (over limit.Side (2 ^ 20) w) (over limit.Side (2 ^ 20) h) none))
kind_within (kind.Soft area least most) none = over_within limit.Area (2 ^ 40) area none

-- a place without a fault keeps its limit
place_within : (p : Option (ℤ × ℤ)) → first (over_place p) ≡ None → IsPlaceWithin p
place_within None none = tt
place_within (Some at) none = (over_within limit.Coordinate (2 ^ 20) (nat_abs at.0) (left_none (over limit.Coordinate (2 ^ 20) (nat_abs at.0)) (over limit.Coordinate (2 ^ 20) (nat_abs at.1)) none), over_within limit.Coordinate (2 ^ 20) (nat_abs at.1) (right_none (over limit.Coordinate (2 ^ 20) (nat_abs at.0)) (over limit.Coordinate (2 ^ 20) (nat_abs at.1)) none))

-- parts that have no such fault have a block
some_block : (parts : Parts) → first (no_blocks parts) ≡ None → 1 ≤ length parts.blocks
some_block parts none = grind (arith, nat_tests)

-- places without a fault keep their limit
places_within : (parts : Parts) → first (over_places parts) ≡ None → IsTrue parts.pads_in → All (λ p. IsPlaceWithin p.place) parts.pads
places_within parts none within k d low =
    let here = rw within at none in
    place_within (get_or parts.pads k d).place (each_none (λ (p : RawPad). over_place p.place) parts.pads here k d low)

-- a count that is cut off at 64 bits and keeps the limit is the count itself
pins_of : (n : ℕ) → min n (2 ^ 64 - 1) ≤ 1048576 → n ≤ 1048576
pins_of n h = omega arith

-- admitted parts keep all limits
pub limits_kept : (parts : Parts) → IsAdmitted parts → KeepsLimits parts
limits_kept parts none =
    let front = left_none (no_blocks parts ++ over_limits parts) (name_faults parts) none in
    let limits = right_none (no_blocks parts) (over_limits parts) front in
    let blocks = flat_map (λ (b : RawBlock). over_kind b.kind) parts.blocks in
    let counted = left_none (over_counts parts ++ blocks) (over_places parts) limits in
    let counts = left_none (over_counts parts) blocks counted in
    let o1 = over limit.Blocks 320 (length parts.blocks) in
    let o2 = over limit.Pads 16384 (length parts.pads) in
    let o3 = over limit.Nets 65536 (length parts.nets) in
    let o4 = over limit.Pins 1048576 (min (sum_by (λ (n : RawNet). length n.pins) parts.nets) (2 ^ 64 - 1)) in
    let c3 = left_none (o1 ++ o2 ++ o3) o4 counts in
    let pins = over_within limit.Pins 1048576 (min (sum_by (λ (n : RawNet). length n.pins) parts.nets) (2 ^ 64 - 1)) (right_none (o1 ++ o2 ++ o3) o4 counts) in
    record {
      some_block = some_block parts (left_none (no_blocks parts) (over_limits parts) front);
      few_blocks = over_within limit.Blocks 320 (length parts.blocks) (left_none o1 o2 (left_none (o1 ++ o2) o3 c3));
      few_pads = over_within limit.Pads 16384 (length parts.pads) (right_none o1 o2 (left_none (o1 ++ o2) o3 c3));
      few_nets = over_within limit.Nets 65536 (length parts.nets) (right_none (o1 ++ o2) o3 c3);
      few_pins = pins_of (sum_by (λ (n : RawNet). length n.pins) parts.nets) pins;
      kinds = λ k d low. kind_within (get_or parts.blocks k d).kind (each_none (λ (b : RawBlock). over_kind b.kind) parts.blocks (right_none (over_counts parts) blocks counted) k d low);
      places = places_within parts (right_none (over_counts parts ++ blocks) (over_places parts) limits);
    }
