-- The shapes of the blocks for their spots, one after another.
use Rattle.std.proofs.Common.{◌≡◌, ℕ, ◌+◌, ◌<◌, List, [], ◌∷◌, ◌++◌, length, length-append, Bool, true, false, sym, ◌∙◌, subst, arith, ◌⊎◌, inl, inr}
use Rattle.std.specs.Prelude.{slice_index_or}
use Rattle.std.proofs.lemmas.Bool.{cases_eq}
use Rattle.std.proofs.Math.Seq.{get_or-append_seam}
use Rattle.std.proofs.lemmas.List.{get_or_append_left}
use Rattle.sf_model.specs.declared.design.Design.{Design}
use Rattle.sf_place.specs.Verdict.{IsListed}
use Rattle.sf_polish.specs.Postfix.{shape_at}
use Rattle.sf_cuts.specs.Packed.{HasShapeFor, IsShapeFor}
use Rattle.sf_cuts.specs.Shaping.{AreShapesFor}
use Rattle.sf_cuts.proofs.Common.{Shape, Spot, spot_of}

-- the first n blocks have shapes for their spots, and these are they
pub record AreFirstShapesFor (design : Design) (soft : List Bool) (spots : List Spot) (n : ℕ) (shapes : List Shape) : Type 0 where
  pub count : length shapes ≡ n
  pub each : (b : ℕ) → b < n → HasShapeFor design soft (spot_of b spots) × IsShapeFor design (spot_of b spots) (shape_at shapes b)

-- a block has a shape by its own mark
pub by_mark : (design : Design) (soft : List Bool) (s : Spot) (b : ℕ) → s.block ≡ b → IsListed design s ⊎ (slice_index_or soft b false ≡ true) → HasShapeFor design soft s
by_mark design soft s b e (inl listed) = inl listed
by_mark design soft s b e (inr marked) = inr (subst (λ k. slice_index_or soft k false ≡ true) (sym e) marked)

-- and none without
pub without_mark : (design : Design) (soft : List Bool) (s : Spot) (b : ℕ) → s.block ≡ b → (¬ (IsListed design s ⊎ (slice_index_or soft b false ≡ true))) → ¬ (HasShapeFor design soft s)
without_mark design soft s b e none (inl listed) = none (inl listed)
without_mark design soft s b e none (inr marked) = none (inr (subst (λ k. slice_index_or soft k false ≡ true) e marked))

-- one block more
pub shapes_more : (design : Design) (soft : List Bool) (spots : List Spot) (n : ℕ) (shapes : List Shape) (shape : Shape) → AreFirstShapesFor design soft spots n shapes
    → HasShapeFor design soft (spot_of n spots) → IsShapeFor design (spot_of n spots) shape → AreFirstShapesFor design soft spots (n + 1) (shapes ++ shape ∷ [])
shapes_more design soft spots n shapes shape s has is = record {
  count = omega (arith, length-append shapes (shape ∷ []), s.count);
  each = λ b h. elim (cases_eq b n) [
    | inl e ↦ (
        let last : shape_at (shapes ++ shape ∷ []) n ≡ shape = subst (λ k. shape_at (shapes ++ shape ∷ []) k ≡ shape) s.count (get_or-append_seam shapes shape [] record { w = 0; h = 0 }) in
        subst (λ k. HasShapeFor design soft (spot_of k spots) × IsShapeFor design (spot_of k spots) (shape_at (shapes ++ shape ∷ []) k)) (sym e)
        (has, subst (IsShapeFor design (spot_of n spots)) (sym last) is)
        )
    | inr other ↦ (
        let old = s.each b (omega (arith, h, other)) in
        let same : shape_at (shapes ++ shape ∷ []) b ≡ shape_at shapes b = get_or_append_left shapes (shape ∷ []) record { w = 0; h = 0 } b (omega (arith, h, other, s.count)) in
        (old.0, subst (IsShapeFor design (spot_of b spots)) (sym same) old.1)
        )
  ];
}

-- all of them
pub shapes_of_all : (design : Design) (soft : List Bool) (spots : List Spot) (n : ℕ) (shapes : List Shape) → n ≡ length spots → AreFirstShapesFor design soft spots n shapes → AreShapesFor design soft spots shapes
shapes_of_all design soft spots n shapes e s = record {
  one_each = s.count ∙ e;
  each = λ b h. s.each b (omega (arith, h, e));
}
