-- Trees that cut two parts, joined, cut both together.
use Rattle.std.proofs.Common.{◌≡◌, ℕ, List, ◌++◌, map, All, Bool, true, false, true≢false, refl, sym, subst, arith}
use Rattle.std.proofs.lemmas.List.{get_or-map, length-map}
use Rattle.sf_cuts.proofs.Common.{Across, All-append, All-map, All-permutation, AreAmong, AreParts, Axis, CanBeCut, IsCutBetween, IsCutOf, IsPermutation, IsPermutation-append, IsPermutation-map, IsPermutation-trans, Shape, Spot, Tree, Upward, begin_on, end_on, is_above, is_beside, joined, leaves, map-append, size_of, spot_of, ◌≤ℤ◌}
use Rattle.sf_cuts.proofs.Covering.{all_of_parts}

-- the block of a spot, and of a leaf
abbrev pub block_of : Spot → ℕ
block_of s = s.block

abbrev pub block_at : ℕ × Shape → ℕ
block_at leaf = leaf.0

-- what holds of each image holds of the image of each
pub unmapped : {X : Type 0} (P : ℕ → Type 0) (f : X → ℕ) (xs : List X) → All P (map f xs) → All (λ x. P (f x)) xs
unmapped P f xs all i d h = subst P (get_or-map f xs i d (f d) h) (all i (f d) (omega (arith, h, length-map xs f)))

-- what holds of the placed spot of each spot's block holds of the placed spot of each leaf's block
pub of_leaves : (placed spots : List Spot) (t : Tree) (P : Spot → Type 0) → AreAmong placed spots → IsPermutation (map block_of spots) (map block_at (leaves t)) → All P spots
    → All (λ leaf. P (spot_of leaf.0 placed)) (leaves t)
of_leaves placed spots t P among same all =
    let Q : ℕ → Type 0 = λ b. P (spot_of b placed) in
    unmapped Q block_at (leaves t)
    (All-permutation Q (map block_of spots) (map block_at (leaves t)) same
    (All-map Q block_of spots (λ i d h. subst P (sym (among i d h)) (all i d h))))

-- the trees of two parts are cut apart
cut_between : (axis : Axis) (placed spots first second : List Spot) (l r : Tree) → AreParts axis spots first second → AreAmong placed spots
    → IsCutOf placed first l → IsCutOf placed second r → IsCutBetween axis placed l r
cut_between axis placed spots first second l r p among left right =
    let both = all_of_parts (λ s. spot_of s.block placed ≡ s) axis spots first second p among in
    record {
      at = p.at;
      before = of_leaves placed first l (λ s. end_on axis s ≤ℤ p.at) both.0 left.blocks p.before;
      after = of_leaves placed second r (λ s. p.at ≤ℤ begin_on axis s) both.1 right.blocks p.after;
    }

-- the blocks of both trees are those of all spots
blocks_together : (axis : Axis) (placed spots first second : List Spot) (l r : Tree) → AreParts axis spots first second → IsCutOf placed first l → IsCutOf placed second r
    → IsPermutation (map block_of spots) (map block_at (leaves l ++ leaves r))
blocks_together axis placed spots first second l r p left right =
    subst (IsPermutation (map block_of spots)) (sym (map-append block_at (leaves l) (leaves r)))
    (IsPermutation-trans (map block_of spots) (map block_of first ++ map block_of second) (map block_at (leaves l) ++ map block_at (leaves r))
    (subst (IsPermutation (map block_of spots)) (map-append block_of first second) (IsPermutation-map block_of spots (first ++ second) p.all))
    (IsPermutation-append (map block_of first) (map block_at (leaves l)) (map block_of second) (map block_at (leaves r)) left.blocks right.blocks))

-- what can't be true is false
false_from : (b : Bool) → (b ≡ true → ⊥) → b ≡ false
false_from true h = absurd (h refl)
false_from false h = refl

-- the joined tree cuts all spots
pub joined_cuts : (axis : Axis) (placed spots first second : List Spot) (l r : Tree) → AreParts axis spots first second → (¬ (CanBeCut axis second)) → AreAmong placed spots
    → IsCutOf placed first l → IsCutOf placed second r → IsCutOf placed spots (joined axis l r)
joined_cuts Across placed spots first second l r p last among left right = record {
  blocks = blocks_together Across placed spots first second l r p left right;
  cuts = (cut_between Across placed spots first second l r p among left right, left.cuts, right.cuts);
  skewed = (left.skewed, right.skewed, false_from (is_beside r) (λ h. last (right.beside h)));
  sizes = All-append (λ leaf. leaf.1 ≡ size_of (spot_of leaf.0 placed)) (leaves l) (leaves r) left.sizes right.sizes;
  beside = λ h. record { first = first; second = second; parts = p };
  above = λ h. absurd (true≢false (sym h));
}
joined_cuts Upward placed spots first second l r p last among left right = record {
  blocks = blocks_together Upward placed spots first second l r p left right;
  cuts = (cut_between Upward placed spots first second l r p among left right, left.cuts, right.cuts);
  skewed = (left.skewed, right.skewed, false_from (is_above r) (λ h. last (right.above h)));
  sizes = All-append (λ leaf. leaf.1 ≡ size_of (spot_of leaf.0 placed)) (leaves l) (leaves r) left.sizes right.sizes;
  beside = λ h. absurd (true≢false (sym h));
  above = λ h. record { first = first; second = second; parts = p };
}
