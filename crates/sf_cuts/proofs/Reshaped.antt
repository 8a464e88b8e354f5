-- A tree that cuts a placement, with the shapes of the blocks for their spots, is a packed plan.
use Rattle.std.proofs.Common.{◌≡◌, ℕ, ◌<◌, List, ◌++◌, length, map, get_or, All, Bool, refl, sym, ap, ◌∙◌, subst, ◌==◌, cond, inl, inr}
use Rattle.std.specs.Prelude.{IsFalse}
use Rattle.sf_model.specs.declared.design.Design.{Design}
use Rattle.sf_model.specs.Legal.{block_count, shapes_of}
use Rattle.sf_place.proofs.Numbered.{all_by_number, block_numbered, spot_of_numbered}
use Rattle.sf_polish.specs.Postfix.{shape_at}
use Rattle.sf_cuts.specs.Packed.{HasShapeFor, IsPacked, IsShapeFor}
use Rattle.sf_cuts.specs.Shaping.{AreShapesFor, shaped}
use Rattle.sf_cuts.proofs.Common.{Across, All-map, Contains, Axis, Cuts, HasEachOnce, IsByNumber, IsCut, IsCutBetween, IsSkewed, Shape, Spot, Tree, Leaf, Beside, Above, Upward, begin_on, count_by, end_on, is_above, is_beside, leaves, map-append, spot_of, ◌≤ℤ◌}
use Rattle.sf_cuts.proofs.Places.{nowhere}
use Rattle.sf_cuts.proofs.Whole.{sum_by-map}

-- a leaf in the shape of its block
abbrev in_shape : List Shape → ℕ × Shape → ℕ × Shape
in_shape shapes leaf = (leaf.0, shape_at shapes leaf.0)

-- the leaves stay, in other shapes
leaves_shaped : (shapes : List Shape) (t : Tree) → leaves (shaped shapes t) ≡ map (in_shape shapes) (leaves t)
leaves_shaped shapes (Leaf b s) = refl
leaves_shaped shapes (Beside l r) =
    let a = leaves_shaped shapes l in
    let b = leaves_shaped shapes r in
    ap (λ z. z ++ leaves (shaped shapes r)) a ∙ ap (λ z. map (in_shape shapes) (leaves l) ++ z) b ∙ sym (map-append (in_shape shapes) (leaves l) (leaves r))
leaves_shaped shapes (Above l r) =
    let a = leaves_shaped shapes l in
    let b = leaves_shaped shapes r in
    ap (λ z. z ++ leaves (shaped shapes r)) a ∙ ap (λ z. map (in_shape shapes) (leaves l) ++ z) b ∙ sym (map-append (in_shape shapes) (leaves l) (leaves r))

-- what holds of each leaf in its other shape holds of each leaf of the tree in these
all_shaped : (shapes : List Shape) (t : Tree) (P : ℕ × Shape → Type 0) → All (λ leaf. P (in_shape shapes leaf)) (leaves t) → All P (leaves (shaped shapes t))
all_shaped shapes t P all = subst (All P) (sym (leaves_shaped shapes t)) (All-map P (in_shape shapes) (leaves t) all)

-- the operators stay
beside_shaped : (shapes : List Shape) (t : Tree) → is_beside (shaped shapes t) ≡ is_beside t
beside_shaped shapes (Leaf b s) = refl
beside_shaped shapes (Beside l r) = refl
beside_shaped shapes (Above l r) = refl

above_shaped : (shapes : List Shape) (t : Tree) → is_above (shaped shapes t) ≡ is_above t
above_shaped shapes (Leaf b s) = refl
above_shaped shapes (Beside l r) = refl
above_shaped shapes (Above l r) = refl

-- a skewed tree stays skewed
skewed_shaped : (shapes : List Shape) (t : Tree) → IsSkewed t → IsSkewed (shaped shapes t)
skewed_shaped shapes (Leaf b s) h = tt
skewed_shaped shapes (Beside l r) h = (skewed_shaped shapes l h.0, skewed_shaped shapes r h.1, subst IsFalse (sym (beside_shaped shapes r)) h.2)
skewed_shaped shapes (Above l r) h = (skewed_shaped shapes l h.0, skewed_shaped shapes r h.1, subst IsFalse (sym (above_shaped shapes r)) h.2)

-- and what cuts still cuts
between_shaped : (shapes : List Shape) (axis : Axis) (spots : List Spot) (l r : Tree) → IsCutBetween axis spots l r → IsCutBetween axis spots (shaped shapes l) (shaped shapes r)
between_shaped shapes axis spots l r c = record {
  at = c.at;
  before = all_shaped shapes l (λ leaf. end_on axis (spot_of leaf.0 spots) ≤ℤ c.at) c.before;
  after = all_shaped shapes r (λ leaf. c.at ≤ℤ begin_on axis (spot_of leaf.0 spots)) c.after;
}

cuts_shaped : (shapes : List Shape) (spots : List Spot) (t : Tree) → Cuts spots t → Cuts spots (shaped shapes t)
cuts_shaped shapes spots (Leaf b s) h = tt
cuts_shaped shapes spots (Beside l r) h = (between_shaped shapes Across spots l r h.0, cuts_shaped shapes spots l h.1, cuts_shaped shapes spots r h.2)
cuts_shaped shapes spots (Above l r) h = (between_shaped shapes Upward spots l r h.0, cuts_shaped shapes spots l h.1, cuts_shaped shapes spots r h.2)

-- each block is still one leaf
once_shaped : (shapes : List Shape) (n : ℕ) (t : Tree) → HasEachOnce n t → HasEachOnce n (shaped shapes t)
once_shaped shapes n t once = record {
  each_once = λ b h.
      let one : ℕ × Shape → ℕ = λ leaf. cond (leaf.0 == b) 1 0 in
      ap (count_by (λ (leaf : ℕ × Shape). leaf.0 == b)) (leaves_shaped shapes t) ∙ sum_by-map one (in_shape shapes) (leaves t) ∙ once.each_once b h;
  no_other = all_shaped shapes t (λ leaf. leaf.0 < n) once.no_other;
}

-- the shape for a spot is listed
listed_shape : (design : Design) (s : Spot) (shape : Shape) → IsShapeFor design s shape → Contains (shapes_of design s.block) shape
listed_shape design s shape (inl same) = subst (Contains (shapes_of design s.block)) (sym same.1) same.0
listed_shape design s shape (inr other) = other.1.listed

-- the block of a spot by its number
block_placed : (spots : List Spot) (b : ℕ) → IsByNumber spots → b < length spots → (spot_of b spots).block ≡ b
block_placed spots b numbered h = ap (λ (s : Spot). s.block) (spot_of_numbered spots b nowhere numbered h) ∙ block_numbered spots b nowhere numbered h

-- so the tree in these shapes is a packed plan
pub packed_of : (design : Design) (soft : List Bool) (spots : List Spot) (shapes : List Shape) (t : Tree) → IsByNumber spots → length spots ≡ block_count design → IsCut spots t
    → AreShapesFor design soft spots shapes → IsPacked design soft spots (shaped shapes t)
packed_of design soft spots shapes t numbered one_each c s =
    let below : All (λ leaf. leaf.0 < length spots) (leaves t) = c.each_once.no_other in
    record {
      cuts = cuts_shaped shapes spots t c.cuts;
      skewed = skewed_shaped shapes t c.skewed;
      legal = record {
        blocks = subst (λ n. HasEachOnce n (shaped shapes t)) one_each (once_shaped shapes (length spots) t c.each_once);
        listed = all_shaped shapes t (λ leaf. Contains (shapes_of design leaf.0) leaf.1) (λ i d h.
            let b = (get_or (leaves t) i d).0 in
            subst (λ k. Contains (shapes_of design k) (shape_at shapes b)) (block_placed spots b numbered (below i d h))
            (listed_shape design (spot_of b spots) (shape_at shapes b) (s.each b (below i d h)).1));
      };
      each_shaped = all_by_number (HasShapeFor design soft) spots numbered (λ b h. (s.each b h).0);
      shapes = all_shaped shapes t (λ leaf. IsShapeFor design (spot_of leaf.0 spots) leaf.1) (λ i d h. (s.each (get_or (leaves t) i d).0 (below i d h)).1);
    }
