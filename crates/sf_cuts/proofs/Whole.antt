-- A tree of all spots of a placement, which stand by number.
use Rattle.std.proofs.Common.{◌≡◌, ℕ, suc, ◌+◌, ◌<◌, ◌≤◌, List, [], ◌∷◌, length, map, get_or, Bool, true, false, true≢false, refl, sym, ap, ◌∙◌, subst, arith, ◌==◌, ◌||◌, cond, inl, inr, Option, Some, None, Result, Ok, Err}
use Rattle.std.specs.Prelude.{IfOk, IfSome}
use Rattle.std.specs.Option.{MatchOption}
use Rattle.std.proofs.lemmas.Bool.{cases_eq}
use Rattle.sf_model.specs.declared.plan.Plan.{Plan}
use Rattle.sf_place.proofs.Numbered.{spot_of_numbered, block_numbered}
use Rattle.sf_cuts.proofs.Common.{zero, All-map, All-permutation, AreAmong, AreDistinct, HasEachOnce, IsByNumber, IsCut, IsCutOf, IsPermutation, IsSlicing, NoneCuts, Covers, Shape, Spot, Tree, Leaf, Beside, Above, count_by, has_leaf, leaves, nat_tests, range_with_len, spot_of, sum_by, sum_by-IsPermutation, sum_by-append, sum_by-cons, tree_of}
use Rattle.sf_cuts.proofs.Joining.{block_at, block_of, unmapped}

-- how often a number stands in a list
abbrev count : ℕ → List ℕ → ℕ
count b xs = count_by (λ x. x == b) xs

-- a sum over images
pub sum_by-map : {X Y : Type 0} (f : Y → ℕ) (g : X → Y) (xs : List X) → sum_by f (map g xs) ≡ sum_by (λ x. f (g x)) xs
sum_by-map f g [] = refl
sum_by-map f g (x ∷ xs) = omega (arith, sum_by-cons f (g x) (map g xs), sum_by-cons (λ x. f (g x)) x xs, sum_by-map f g xs)

-- a number before a range isn't in it
count_before : (b a n : ℕ) → b < a → count b (range_with_len a n) ≡ 0
count_before b a zero h = refl
count_before b a (suc n) h = grind (arith, nat_tests, sum_by-cons (λ x. cond (x == b) 1 0) a (range_with_len (a + 1) n), count_before b (a + 1) n (omega arith))

-- a number of a range is in it once
count_once : (b a n : ℕ) → a ≤ b → b < a + n → count b (range_with_len a n) ≡ 1
count_once b a zero h k = absurd (omega arith)
count_once b a (suc n) h k =
    let c = sum_by-cons (λ x. cond (x == b) 1 0) a (range_with_len (a + 1) n) in
    elim (cases_eq a b) [
      | inl e ↦ grind (arith, nat_tests, c, e, count_before b (a + 1) n (omega (arith, e)))
      | inr e ↦ grind (arith, nat_tests, c, e, count_once b (a + 1) n (omega (arith, e)) (omega arith))
    ]

-- and never twice
count_most : (b a n : ℕ) → count b (range_with_len a n) ≤ 1
count_most b a zero = omega arith
count_most b a (suc n) =
    let c = sum_by-cons (λ x. cond (x == b) 1 0) a (range_with_len (a + 1) n) in
    elim (cases_eq a b) [
      | inl e ↦ grind (arith, nat_tests, c, e, count_before b (a + 1) n (omega (arith, e)))
      | inr e ↦ grind (arith, nat_tests, c, e, count_most b (a + 1) n)
    ]

-- a block has as many spots as its number has places in the list of blocks
count_spots : (b : ℕ) (spots : List Spot) → count_by (λ s. s.block == b) spots ≡ count b (map block_of spots)
count_spots b spots = sym (sum_by-map (λ x. cond (x == b) 1 0) block_of spots)

-- spots by number are of distinct blocks
pub distinct_by_number : (spots : List Spot) → IsByNumber spots → AreDistinct spots
distinct_by_number spots numbered b = omega (arith, count_spots b spots, ap (count b) numbered, count_most b 0 (length spots))

-- and each is the one of its block
pub among_by_number : (spots : List Spot) → IsByNumber spots → AreAmong spots spots
among_by_number spots numbered i d h =
    ap (λ b. spot_of b spots) (block_numbered spots i d numbered h) ∙ spot_of_numbered spots i d numbered h

-- a tree of the blocks of all spots has each of them once
once_by_number : (spots : List Spot) (t : Tree) → IsByNumber spots → IsPermutation (map block_of spots) (map block_at (leaves t)) → HasEachOnce (length spots) t
once_by_number spots t numbered same = record {
  each_once = λ b h.
      sym (sum_by-map (λ x. cond (x == b) 1 0) block_at (leaves t))
      ∙ sum_by-IsPermutation (λ x. cond (x == b) 1 0) (map block_of spots) (map block_at (leaves t)) same
      ∙ ap (count b) numbered
      ∙ count_once b 0 (length spots) (omega arith) (omega (arith, h));
  no_other = unmapped (λ b. b < length spots) block_at (leaves t)
      (All-permutation (λ b. b < length spots) (map block_of spots) (map block_at (leaves t)) same
      (All-map (λ b. b < length spots) block_of spots (λ i d h. omega (arith, h, block_numbered spots i d numbered h))));
}

-- so what cuts all spots is what the call returns
cut_of_all : (spots : List Spot) (t : Tree) → IsByNumber spots → IsCutOf spots spots t → IsCut spots t
cut_of_all spots t numbered c = record {
  each_once = once_by_number spots t numbered c.blocks;
  cuts = c.cuts;
  skewed = c.skewed;
  sizes = c.sizes;
}

-- neither of two tests that fail together passes
or_false : (a b : Bool) → (a || b) ≡ false → (a ≡ false) × (b ≡ false)
or_false true b h = absurd (true≢false h)
or_false false b h = (refl, h)

-- what is no leaf is counted at none
no_leaf : (b : ℕ) (t : Tree) → has_leaf b t ≡ false → count_by (λ leaf. leaf.0 == b) (leaves t) ≡ 0
no_leaf b (Leaf c s) h = grind (arith, nat_tests, h)
no_leaf b (Beside l r) h =
    let none = or_false (has_leaf b l) (has_leaf b r) h in
    omega (arith, sum_by-append (λ (leaf : ℕ × Shape). cond (leaf.0 == b) 1 0) (leaves l) (leaves r), no_leaf b l none.0, no_leaf b r none.1)
no_leaf b (Above l r) h =
    let none = or_false (has_leaf b l) (has_leaf b r) h in
    omega (arith, sum_by-append (λ (leaf : ℕ × Shape). cond (leaf.0 == b) 1 0) (leaves l) (leaves r), no_leaf b l none.0, no_leaf b r none.1)

-- what is counted once is a leaf
some_leaf : (b : ℕ) (t : Tree) (found : Bool) → has_leaf b t ≡ found → count_by (λ leaf. leaf.0 == b) (leaves t) ≡ 1 → found ≡ true
some_leaf b t true e h = refl
some_leaf b t false e h = absurd (omega (arith, h, no_leaf b t e))

-- a tree that has each block once covers all spots
once_covers : (spots : List Spot) (t : Tree) → IsByNumber spots → HasEachOnce (length spots) t → Covers t spots
once_covers spots t numbered once i d h =
    let e : (get_or spots i d).block ≡ i = block_numbered spots i d numbered h in
    subst (λ b. has_leaf b t ≡ true) (sym e) (some_leaf i t (has_leaf i t) refl (once.each_once i h))

-- where no tree of all blocks, and maybe others, cuts the placement, it is no slicing one
pub not_slicing : (spots : List Spot) → IsByNumber spots → NoneCuts spots spots → ¬ (IsSlicing spots)
not_slicing spots numbered none slicing = none slicing.0 (once_covers spots slicing.0 numbered slicing.1) slicing.2

-- what is found of all spots
abbrev pub Found : {E : Type 0} → List Spot → Result (Option Plan) E → Type 0
Found spots r = IfOk r (λ found. MatchOption found (NoneCuts spots spots) (λ plan. IsCutOf spots spots (tree_of plan)))

pub cut_found : {E : Type 0} (spots : List Spot) → IsByNumber spots → (r : Result (Option Plan) E) → Found spots r → IfOk r (λ found. IfSome found (λ plan. IsCut spots (tree_of plan)))
cut_found spots numbered (Ok None) h = tt
cut_found spots numbered (Ok (Some plan)) h = cut_of_all spots (tree_of plan) numbered h
cut_found spots numbered (Err e) h = tt

pub none_found : {E : Type 0} (spots : List Spot) → IsByNumber spots → (r : Result (Option Plan) E) → Found spots r → r ≡ Ok None → ¬ (IsSlicing spots)
none_found spots numbered r h e = not_slicing spots numbered (subst (Found spots) e h)
