-- A packed tree that cuts a placement is no larger than the placement.
use Rattle.std.proofs.Common.{◌≡◌, ℕ, ◌<◌, ◌≤◌, List, [], ◌∷◌, ◌++◌, length, map, get_or, All, Bool, refl, sym, ap, subst, arith, inl, inr}
use Rattle.std.specs.Prelude.{fold, nat_abs, ◌-ℤ◌}
use Rattle.std.specs.Int.{int_min}
use Rattle.std.proofs.lemmas.Int.{fold-int_max_bounds, fold-int_min_bounds}
use Rattle.std.proofs.lemmas.List.{get_or-map, length-map}
use Rattle.std.proofs.lemmas.List.Elements.{All-cons}
use Rattle.sf_model.specs.declared.design.Design.{Design}
use Rattle.sf_model.specs.Legal.{block_count}
use Rattle.sf_model.proofs.Each.{each-left, each-right}
use Rattle.sf_place.proofs.Numbered.{spot_of_numbered}
use Rattle.sf_place.specs.Verdict.{IsListed}
use Rattle.sf_cuts.specs.Packed.{IsPacked, IsShapeFor}
use Rattle.sf_cuts.proofs.Common.{Across, AllByRecursion, All-from_recursion, recursion_from_All, Axis, Cuts, HasEachOnce, IsByNumber, Shape, Spot, Tree, Leaf, Beside, Above, Upward, begin_on, end_on, extent, height, int_max, ints, leaves, size_of, spot_of, width, ℤ, pos, ◌+ℤ◌, ◌≤ℤ◌}
use Rattle.sf_cuts.proofs.Places.{nowhere}

-- where each spot of a tree's blocks begins
abbrev BeginsFrom : Axis → List Spot → ℤ → List (ℕ × Shape) → Type 0
BeginsFrom axis spots low ls = AllByRecursion (λ leaf. low ≤ℤ begin_on axis (spot_of leaf.0 spots)) ls

-- where each ends
abbrev EndsBy : Axis → List Spot → ℤ → List (ℕ × Shape) → Type 0
EndsBy axis spots high ls = AllByRecursion (λ leaf. end_on axis (spot_of leaf.0 spots) ≤ℤ high) ls

-- no leaf is larger than its block's spot
abbrev IsSmall : List Spot → List (ℕ × Shape) → Type 0
IsSmall spots ls = AllByRecursion (λ leaf. (leaf.1.w ≤ (spot_of leaf.0 spots).w) × (leaf.1.h ≤ (spot_of leaf.0 spots).h)) ls

-- what holds of each leaf of two trees holds of each of either
left_of : (P : ℕ × Shape → Type 0) (l r : Tree) → AllByRecursion P (leaves l ++ leaves r) → AllByRecursion P (leaves l)
left_of P l r h = each-left P (leaves l) (leaves r) h

right_of : (P : ℕ × Shape → Type 0) (l r : Tree) → AllByRecursion P (leaves l ++ leaves r) → AllByRecursion P (leaves r)
right_of P l r h = each-right P (leaves l) (leaves r) h

-- between two places the tree is no wider than they are apart
wide_between : (spots : List Spot) (t : Tree) → Cuts spots t → IsSmall spots (leaves t) → (low high : ℤ) → BeginsFrom Across spots low (leaves t) → EndsBy Across spots high (leaves t)
    → (low +ℤ pos (width t)) ≤ℤ high
wide_between spots (Leaf b s) cuts small low high from by =
    let w : s.w ≤ (spot_of b spots).w = small.0.0 in
    let a : low ≤ℤ (spot_of b spots).x = from.0 in
    let z : ((spot_of b spots).x +ℤ pos (spot_of b spots).w) ≤ℤ high = by.0 in
    omega (arith, ints, w, a, z)
wide_between spots (Beside l r) cuts small low high from by =
    let at = cuts.0.at in
    let a : (low +ℤ pos (width l)) ≤ℤ at =
    wide_between spots l cuts.1 (left_of _ l r small) low at (left_of _ l r from) (recursion_from_All (λ leaf. end_on Across (spot_of leaf.0 spots) ≤ℤ at) (leaves l) cuts.0.before) in
    let z : (at +ℤ pos (width r)) ≤ℤ high =
    wide_between spots r cuts.2 (right_of _ l r small) at high (recursion_from_All (λ leaf. at ≤ℤ begin_on Across (spot_of leaf.0 spots)) (leaves r) cuts.0.after) (right_of _ l r by) in
    omega (arith, ints, a, z)
wide_between spots (Above l r) cuts small low high from by =
    let a : (low +ℤ pos (width l)) ≤ℤ high = wide_between spots l cuts.1 (left_of _ l r small) low high (left_of _ l r from) (left_of _ l r by) in
    let z : (low +ℤ pos (width r)) ≤ℤ high = wide_between spots r cuts.2 (right_of _ l r small) low high (right_of _ l r from) (right_of _ l r by) in
    omega (arith, ints, a, z)

-- nor higher
high_between : (spots : List Spot) (t : Tree) → Cuts spots t → IsSmall spots (leaves t) → (low high : ℤ) → BeginsFrom Upward spots low (leaves t) → EndsBy Upward spots high (leaves t)
    → (low +ℤ pos (height t)) ≤ℤ high
high_between spots (Leaf b s) cuts small low high from by =
    let w : s.h ≤ (spot_of b spots).h = small.0.1 in
    let a : low ≤ℤ (spot_of b spots).y = from.0 in
    let z : ((spot_of b spots).y +ℤ pos (spot_of b spots).h) ≤ℤ high = by.0 in
    omega (arith, ints, w, a, z)
high_between spots (Above l r) cuts small low high from by =
    let at = cuts.0.at in
    let a : (low +ℤ pos (height l)) ≤ℤ at =
    high_between spots l cuts.1 (left_of _ l r small) low at (left_of _ l r from) (recursion_from_All (λ leaf. end_on Upward (spot_of leaf.0 spots) ≤ℤ at) (leaves l) cuts.0.before) in
    let z : (at +ℤ pos (height r)) ≤ℤ high =
    high_between spots r cuts.2 (right_of _ l r small) at high (recursion_from_All (λ leaf. at ≤ℤ begin_on Upward (spot_of leaf.0 spots)) (leaves r) cuts.0.after) (right_of _ l r by) in
    omega (arith, ints, a, z)
high_between spots (Beside l r) cuts small low high from by =
    let a : (low +ℤ pos (height l)) ≤ℤ high = high_between spots l cuts.1 (left_of _ l r small) low high (left_of _ l r from) (left_of _ l r by) in
    let z : (low +ℤ pos (height r)) ≤ℤ high = high_between spots r cuts.2 (right_of _ l r small) low high (right_of _ l r from) (right_of _ l r by) in
    omega (arith, ints, a, z)

-- what holds of each image holds of the image of each
unmapped_on : (P : ℤ → Type 0) (f : Spot → ℤ) (xs : List Spot) → All P (map f xs) → All (λ s. P (f s)) xs
unmapped_on P f xs all i d h = subst P (get_or-map f xs i d (f d) h) (all i (f d) (omega (arith, h, length-map xs f)))

-- what lies within the greatest and the least of some numbers is no longer than they are apart
within_spread : (lo hi : ℤ) (n : ℕ) → (lo +ℤ pos n) ≤ℤ hi → n ≤ nat_abs (hi -ℤ lo)
within_spread lo hi n h = grind (arith, ints, h)

-- two places of an extent, from which and by which all spots stand
record IsSpan (axis : Axis) (spots : List Spot) : Type 0 where
  low : ℤ
  high : ℤ
  from : All (λ s. low ≤ℤ begin_on axis s) spots
  by : All (λ s. end_on axis s ≤ℤ high) spots
  apart : extent axis spots ≡ nat_abs (high -ℤ low)

-- an extent has such places
span_of : (axis : Axis) (s : Spot) (ss : List Spot) → IsSpan axis (s ∷ ss)
span_of axis s ss =
    let spots = s ∷ ss in
    let z = begin_on axis s in
    let zs = map (begin_on axis) ss ++ map (end_on axis) spots in
    let lo = fold int_min z zs in
    let hi = fold int_max z zs in
    let least = fold-int_min_bounds z zs lo refl in
    let most = fold-int_max_bounds z zs hi refl in
    let ends : AllByRecursion (λ x. x ≤ℤ hi) (map (end_on axis) spots) = each-right (λ x. x ≤ℤ hi) (map (begin_on axis) ss) (map (end_on axis) spots) (recursion_from_All (λ x. x ≤ℤ hi) zs most.1) in
    let begins : AllByRecursion (λ x. lo ≤ℤ x) (map (begin_on axis) ss) = each-left (λ x. lo ≤ℤ x) (map (begin_on axis) ss) (map (end_on axis) spots) (recursion_from_All (λ x. lo ≤ℤ x) zs least.1) in
    record {
      low = lo;
      high = hi;
      from = All-cons (λ t. lo ≤ℤ begin_on axis t) s ss least.0 (unmapped_on (λ x. lo ≤ℤ x) (begin_on axis) ss (All-from_recursion (λ x. lo ≤ℤ x) (map (begin_on axis) ss) begins));
      by = unmapped_on (λ x. x ≤ℤ hi) (end_on axis) spots (All-from_recursion (λ x. x ≤ℤ hi) (map (end_on axis) spots) ends);
      apart = refl;
    }

-- what holds of each spot holds of the spot of each leaf
pub of_spots : (spots : List Spot) (t : Tree) (P : Spot → Type 0) → IsByNumber spots → HasEachOnce (length spots) t → All P spots → All (λ leaf. P (spot_of leaf.0 spots)) (leaves t)
of_spots spots t P numbered once all i d h =
    let b = (get_or (leaves t) i d).0 in
    let below : b < length spots = once.no_other i d h in
    subst P (sym (spot_of_numbered spots b nowhere numbered below)) (all b nowhere below)

-- a listed size is the shape
as_placed : (design : Design) (s : Spot) (shape : Shape) → IsListed design s → IsShapeFor design s shape → shape ≡ size_of s
as_placed design s shape listed (inl same) = same.1
as_placed design s shape listed (inr other) = absurd (other.0 listed)

-- the leaves of a packed plan are as large as the spots, where the sizes of these are listed
small_leaves : (design : Design) (soft : List Bool) (spots : List Spot) (t : Tree) → IsByNumber spots → length spots ≡ block_count design → All (IsListed design) spots → IsPacked design soft spots t
    → IsSmall spots (leaves t)
small_leaves design soft spots t numbered one_each listed p =
    let once : HasEachOnce (length spots) t = subst (λ n. HasEachOnce n t) (sym one_each) p.legal.blocks in
    let each = of_spots spots t (IsListed design) numbered once listed in
    recursion_from_All (λ leaf. (leaf.1.w ≤ (spot_of leaf.0 spots).w) × (leaf.1.h ≤ (spot_of leaf.0 spots).h)) (leaves t)
    (λ i d h.
    let same : (get_or (leaves t) i d).1 ≡ size_of (spot_of (get_or (leaves t) i d).0 spots) = as_placed design (spot_of (get_or (leaves t) i d).0 spots) (get_or (leaves t) i d).1 (each i d h) (p.shapes i d h) in
    let wide : (get_or (leaves t) i d).1.w ≡ (spot_of (get_or (leaves t) i d).0 spots).w = ap (λ (s : Shape). s.w) same in
    let high : (get_or (leaves t) i d).1.h ≡ (spot_of (get_or (leaves t) i d).0 spots).h = ap (λ (s : Shape). s.h) same in
    (omega (arith, wide), omega (arith, high)))

-- a packed plan in placed sizes is no wider than the placement
pub packed_width : (design : Design) (soft : List Bool) (spots : List Spot) (t : Tree) → IsByNumber spots → length spots ≡ block_count design → All (IsListed design) spots → IsPacked design soft spots t
    → width t ≤ extent Across spots
packed_width design soft [] t numbered one_each listed p = absurd (omega (arith, one_each, design.limits.some_block))
packed_width design soft (s ∷ ss) t numbered one_each listed p =
    let spots = s ∷ ss in
    let span = span_of Across s ss in
    let once : HasEachOnce (length spots) t = subst (λ n. HasEachOnce n t) (sym one_each) p.legal.blocks in
    subst (λ n. width t ≤ n) (sym span.apart)
    (within_spread span.low span.high (width t)
    (wide_between spots t p.cuts (small_leaves design soft spots t numbered one_each listed p) span.low span.high
    (recursion_from_All (λ leaf. span.low ≤ℤ begin_on Across (spot_of leaf.0 spots)) (leaves t) (of_spots spots t (λ s. span.low ≤ℤ begin_on Across s) numbered once span.from))
    (recursion_from_All (λ leaf. end_on Across (spot_of leaf.0 spots) ≤ℤ span.high) (leaves t) (of_spots spots t (λ s. end_on Across s ≤ℤ span.high) numbered once span.by))))

-- nor higher
pub packed_height : (design : Design) (soft : List Bool) (spots : List Spot) (t : Tree) → IsByNumber spots → length spots ≡ block_count design → All (IsListed design) spots → IsPacked design soft spots t
    → height t ≤ extent Upward spots
packed_height design soft [] t numbered one_each listed p = absurd (omega (arith, one_each, design.limits.some_block))
packed_height design soft (s ∷ ss) t numbered one_each listed p =
    let spots = s ∷ ss in
    let span = span_of Upward s ss in
    let once : HasEachOnce (length spots) t = subst (λ n. HasEachOnce n t) (sym one_each) p.legal.blocks in
    subst (λ n. height t ≤ n) (sym span.apart)
    (within_spread span.low span.high (height t)
    (high_between spots t p.cuts (small_leaves design soft spots t numbered one_each listed p) span.low span.high
    (recursion_from_All (λ leaf. span.low ≤ℤ begin_on Upward (spot_of leaf.0 spots)) (leaves t) (of_spots spots t (λ s. span.low ≤ℤ begin_on Upward s) numbered once span.from))
    (recursion_from_All (λ leaf. end_on Upward (spot_of leaf.0 spots) ≤ℤ span.high) (leaves t) (of_spots spots t (λ s. end_on Upward s ≤ℤ span.high) numbered once span.by))))
