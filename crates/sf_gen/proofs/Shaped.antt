-- AllByRecursion block has a shape.
use Rattle.std.proofs.Common.{◌≡◌, ℕ, zero, suc, ◌+◌, ◌*◌, ◌-◌, ◌/◌, ◌<◌, ◌≤◌, ◌==◌, Bool, true, false, cond, List, [], ◌∷◌, refl, sym, ap, ◌∙◌, inl, inr, arith, ◌||◌, option_map}
use Rattle.sf_gen.proofs.Common.{map, max, min, nat_le, zip, Some, None, AllByRecursion, range_with_len, cases_lt, All-head, All-tail, RawBlock, Kinds, Size, raw_block, raw_blocks, sizes, is_soft, mul-le-mul, mul-le-mul_right, BuildFault}
use Rattle.std.proofs.Math.Nat.{lt_of_not-le}
use Rattle.std.proofs.lemmas.Grind.{div_ceil_times}
use Rattle.sf_parts.specs.Built.{first_shapeless}
use Rattle.sf_parts.specs.declared.fault.BuildFault.TheVariants.{NoShape}
use Rattle.sf_model.specs.declared.parts.Shape.{Shape}
use Rattle.sf_parts.specs.declared.raw.Kind.TheVariants as kind
use Rattle.sf_soft_shapes.specs.Listed.{shape, height_at, IsAllowed, width_count, widths, IsSoftList, IsListOf, AreFirstLists, HasNoneFor}
use Rattle.sf_gen.proofs.BlockLines.{IsSmall, area_low, area_high}
use Rattle.sf_gen.proofs.EndsDrawn.{each_indexed, sizes_small}

-- ---- the least side of a square that holds the area

-- u is the greatest number whose square is less than the area
record IsRoot (area u : ℕ) : Type 0 where
  below : u * u < area
  above : area ≤ suc u * suc u

-- where an area has such a number, the next area has one too
next_root : (area u : ℕ) → IsRoot area u → (v : ℕ) × IsRoot (suc area) v
next_root area u r = elim (cases_lt area (suc u * suc u)) [
  | inl lt ↦ (u, record { below = omega (arith, r.below); above = omega (arith, lt) })
  | inr le ↦ (suc u, record { below = omega (arith, r.above); above = omega (arith, r.above, le) })
]

-- each positive area has such a number
root_of : (area : ℕ) → (u : ℕ) × IsRoot (suc area) u
root_of zero = (0, record { below = omega arith; above = omega arith })
root_of (suc area) = let before = root_of area in next_root (suc area) before.0 before.1

-- ---- an allowed width

module _ (area u : ℕ) (r : IsRoot area u) (small : area ≤ 10_000) where
  -- the height for the width u + 1
  abbrev tall : ℕ
  tall = height_at area (suc u)

  -- width and height hold the area, and less than one row more than it
  holds : (area ≤ tall * suc u) × (tall * suc u < area + suc u)
  holds = div_ceil_times area (suc u) (omega arith)

  -- the width is at most 100
  low : u < 100
  low = lt_of_not-le (λ le. absurd (omega (arith, r.below, mul-le-mul le le)))

  -- the height is at most the width
  not_taller : tall < suc (suc u)
  not_taller = lt_of_not-le (λ le. absurd (omega (arith, holds.1, r.above, mul-le-mul_right (suc u) le)))

  -- the height is at least u
  not_lower : u < suc tall
  not_lower = lt_of_not-le (λ le. absurd (omega (arith, holds.0, r.below, mul-le-mul_right (suc u) le)))

  -- the height is at least 1
  some_height : 0 < tall
  some_height = lt_of_not-le (λ le. absurd (omega (arith, holds.0, r.below, mul-le-mul_right (suc u) le)))

  -- the width u + 1 is allowed with aspects from 0.5 to 2
  root_allowed : IsAllowed area 500_000 2_000_000 (suc u)
  root_allowed = record {
    some = omega arith;
    width = omega (arith, low);
    height = omega (arith, low, not_taller);
    above = omega (arith, not_lower, some_height);
    below = omega (arith, not_taller);
  }

-- ---- no list is empty

-- a range of at least one number has an element
filled_range : (n : ℕ) → 1 ≤ n → (f : ℕ → ℕ) → map f (range_with_len 0 n) ≡ [] → ⊥
filled_range zero h f e = omega arith
filled_range (suc n) h f e = cc

-- where the least allowed width is at most the greatest, and at least one width is wanted, there is a width
some_width : (k lo hi : ℕ) (b : Bool) → 1 ≤ k → lo ≤ hi
    → cond b (map (λ j. lo + j) (range_with_len 0 (width_count lo hi))) (map (λ j. lo + j * (hi - lo) / (k - 1)) (range_with_len 0 k)) ≡ [] → ⊥
some_width k lo hi true h le e = filled_range (width_count lo hi) (omega arith) (λ j. lo + j) e
some_width k lo hi false h le e = filled_range k h (λ j. lo + j * (hi - lo) / (k - 1)) e

-- a list whose results are empty is empty itself
map_nil : {X Y : Type 0} (f : X → Y) (xs : List X) → map f xs ≡ [] → xs ≡ []
map_nil f [] e = refl
map_nil f (x ∷ xs) e = absurd cc

-- an empty list is no list of shapes of a soft block of an area from 1 to 10,000
soft_filled : (area k : ℕ) → 0 < area → area ≤ 10_000 → 1 ≤ k → IsSoftList area 500_000 2_000_000 k [] → ⊥
soft_filled zero k some small h l = omega arith
soft_filled (suc area) k some small h l =
    let root = root_of area in
    let in_range = (l.between (suc root.0)).0 (root_allowed (suc area) root.0 root.1 small) in
    let none = map_nil (λ w. shape w (height_at (suc area) w)) (widths k l.lo l.hi) (sym l.listed) in
    some_width k l.lo l.hi (nat_le (width_count l.lo l.hi) k) h (omega (arith, in_range.0, in_range.1)) none

-- an empty list is no list of shapes of a hard block
hard_filled : (b : Bool) (w h : ℕ) → [] ≡ cond b (shape w h ∷ []) (shape (min w h) (max w h) ∷ shape (max w h) (min w h) ∷ []) → ⊥
hard_filled true w h e = cc
hard_filled false w h e = cc

-- an empty list is no list of shapes of a block of small sides, soft or hard
kind_filled : (b : Bool) (k : ℕ) (fixed : Bool) (s : Size) → IsSmall s → 1 ≤ k → IsListOf k fixed (cond b (kind.Soft (s.w * s.h) 500_000 2_000_000) (kind.Hard s.w s.h)) [] → ⊥
kind_filled true k fixed s f h l = soft_filled (s.w * s.h) k (area_low s f) (area_high s f) h l
kind_filled false k fixed s f h l = hard_filled (fixed || (s.w == s.h)) s.w s.h l

-- the block's list is not empty, whichever it is
abbrev HasShape : ℕ → Bool → RawBlock → Type 0
HasShape k fixed b = IsListOf k fixed b.kind [] → ⊥

-- where no block may have an empty list, none of the blocks that have lists is without a shape
all_shaped : (k : ℕ) (fixed : Bool) (bs : List RawBlock) (lists : List (List Shape)) → AllByRecursion (HasShape k fixed) bs → AreFirstLists k fixed bs lists → first_shapeless bs lists ≡ None
all_shaped k fixed [] lists h are = refl
all_shaped k fixed (b ∷ bs) [] h are = refl
all_shaped k fixed (b ∷ bs) ([] ∷ ls) h are = absurd (h.0 (All-head (λ (p : RawBlock × List Shape). IsListOf k fixed p.0.kind p.1) (b, []) (zip bs ls) are))
all_shaped k fixed (b ∷ bs) ((s ∷ ss) ∷ ls) h are = all_shaped k fixed bs ls h.1 (All-tail (λ (p : RawBlock × List Shape). IsListOf k fixed p.0.kind p.1) (b, s ∷ ss) (zip bs ls) are)

-- among the lists made so far, none of the blocks of a generated design is without a shape
pub first_shaped : (kinds : Kinds) (seed n k : ℕ) (fixed : Bool) (lists : List (List Shape)) → 2 ≤ k → AreFirstLists k fixed (raw_blocks kinds (sizes seed n)) lists → first_shapeless (raw_blocks kinds (sizes seed n)) lists ≡ None
first_shaped kinds seed n k fixed lists h are =
    all_shaped k fixed (raw_blocks kinds (sizes seed n)) lists
    (each_indexed IsSmall (HasShape k fixed) (raw_block kinds) (λ i s f l. kind_filled (is_soft kinds i) k fixed s f (omega (arith, h)) l) 0 (sizes seed n) (sizes_small seed n)) are

-- no block of a generated design is refused for having no shape
pub never_refused : (kinds : Kinds) (seed n k : ℕ) (fixed : Bool) (fault : BuildFault) → 2 ≤ k → HasNoneFor k fixed (raw_blocks kinds (sizes seed n)) fault → ⊥
never_refused kinds seed n k fixed fault h none =
    let e : None ≡ Some fault = sym (ap (option_map NoShape) (first_shaped kinds seed n k fixed none.0 h none.1)) ∙ none.2 in
    absurd cc
