-- Where the blocks of a floorplan stand.
use Rattle.std.proofs.Common.{◌≡◌, ℕ, ◌+◌, ◌<◌, ◌≤◌, List, [], ◌∷◌, ◌++◌, arith, refl, ap, sym, subst, ◌∙◌, ◌⊎◌, inl, inr, ◌==◌, Bool, true, false, cond, ◌+ℤ◌, ◌≤ℤ◌}
use Rattle.sf_standard.proofs.Common.{Contains, count_by, pos, AllByRecursion, cases_eq, cond-true, cond-false, eq-eqb, ne_eqb, ints, sum_by-append, recursion_from_All, Contains-append_left, Contains-append_right, Design, Shape, Spot, IsLegal, block_count, Tree, Leaf, Beside, Above, width, height, leaves, spots_at, spots_of, IsInside, spot_of, each-append, each-weaker, EachPair, EachPair-append, Contains-cons_cases, Contains-head, Contains-tail, not_in_nil}
use Rattle.sf_model.proofs.Places.{Within, spots-within, spots-inside}
use Rattle.sf_standard.proofs.Listed.{each-contains, each-from, count-head, count-cons, count-some}

-- a block has as many spots as leaves
pub count-spots : (b x y : ℕ) (t : Tree) → count_by (λ s. s.block == b) (spots_at x y t) ≡ count_by (λ leaf. leaf.0 == b) (leaves t)
count-spots b x y (Leaf c s) = refl
count-spots b x y (Beside l r) =
    omega (arith, sum_by-append (λ s. cond (s.block == b) 1 0) (spots_at x y l) (spots_at (x + width l) y r), sum_by-append (λ leaf. cond (leaf.0 == b) 1 0) (leaves l) (leaves r), count-spots b x y l, count-spots b (x + width l) y r)
count-spots b x y (Above l r) =
    omega (arith, sum_by-append (λ s. cond (s.block == b) 1 0) (spots_at x y l) (spots_at x (y + height l) r), sum_by-append (λ leaf. cond (leaf.0 == b) 1 0) (leaves l) (leaves r), count-spots b x y l, count-spots b x (y + height l) r)

-- the only spot of a block is found by it
pub spot_of-once : (b : ℕ) (ss : List Spot) (s : Spot) → count_by (λ t. t.block == b) ss ≤ 1 → Contains ss s → s.block ≡ b → spot_of b ss ≡ s
spot_of-once b [] s few c is = absurd (not_in_nil s c)
spot_of-once b (t ∷ ss) s few c is =
    elim (Contains-cons_cases t ss s c) [
      | inl e ↦ cond-true (t.block == b) t (spot_of b ss) (eq-eqb t.block b (ap (λ v. v.block) e ∙ is)) ∙ e
      | inr d ↦ elim (cases_eq t.block b) [
        | inl same ↦ absurd (omega (arith, few, count-head (λ v. v.block == b) t ss (eq-eqb t.block b same), count-some (λ v. v.block == b) ss s d (eq-eqb s.block b is)))
        | inr other ↦ cond-false (t.block == b) t (spot_of b ss) (ne_eqb t.block b other) ∙ spot_of-once b ss s (omega (arith, few, count-cons (λ v. v.block == b) t ss)) d is
      ]
    ]

-- the spot is that of the leaf
pub record IsSpotOf (leaf : ℕ × Shape) (s : Spot) : Type 0 where
  pub block : s.block ≡ leaf.0
  pub wide : s.w ≡ leaf.1.w
  pub high : s.h ≡ leaf.1.h

-- each leaf has a spot
pub leaf-spots : (x y : ℕ) (t : Tree) → AllByRecursion (λ leaf. (s : Spot) × Contains (spots_at x y t) s × IsSpotOf leaf s) (leaves t)
leaf-spots x y (Leaf b s) = ((record { block = b; x = pos x; y = pos y; w = s.w; h = s.h }, Contains-head _ [], record { block = refl; wide = refl; high = refl }), tt)
leaf-spots x y (Beside l r) =
    each-append (λ leaf. (s : Spot) × Contains (spots_at x y l ++ spots_at (x + width l) y r) s × IsSpotOf leaf s) (leaves l) (leaves r)
    (each-weaker (λ leaf. (s : Spot) × Contains (spots_at x y l) s × IsSpotOf leaf s) _ (λ leaf k. (k.0, Contains-append_left (spots_at x y l) (spots_at (x + width l) y r) k.0 k.1, k.2)) (leaves l) (leaf-spots x y l))
    (each-weaker (λ leaf. (s : Spot) × Contains (spots_at (x + width l) y r) s × IsSpotOf leaf s) _ (λ leaf k. (k.0, Contains-append_right (spots_at x y l) (spots_at (x + width l) y r) k.0 k.1, k.2)) (leaves r) (leaf-spots (x + width l) y r))
leaf-spots x y (Above l r) =
    each-append (λ leaf. (s : Spot) × Contains (spots_at x y l ++ spots_at x (y + height l) r) s × IsSpotOf leaf s) (leaves l) (leaves r)
    (each-weaker (λ leaf. (s : Spot) × Contains (spots_at x y l) s × IsSpotOf leaf s) _ (λ leaf k. (k.0, Contains-append_left (spots_at x y l) (spots_at x (y + height l) r) k.0 k.1, k.2)) (leaves l) (leaf-spots x y l))
    (each-weaker (λ leaf. (s : Spot) × Contains (spots_at x (y + height l) r) s × IsSpotOf leaf s) _ (λ leaf k. (k.0, Contains-append_right (spots_at x y l) (spots_at x (y + height l) r) k.0 k.1, k.2)) (leaves r) (leaf-spots x (y + height l) r))

-- each spot is that of a leaf
pub spot-leaves : (x y : ℕ) (t : Tree) → AllByRecursion (λ s. Contains (leaves t) (s.block, record { w = s.w; h = s.h })) (spots_at x y t)
spot-leaves x y (Leaf b s) = (Contains-head (b, s) [], tt)
spot-leaves x y (Beside l r) =
    each-append (λ s. Contains (leaves l ++ leaves r) (s.block, record { w = s.w; h = s.h })) (spots_at x y l) (spots_at (x + width l) y r)
    (each-weaker (λ s. Contains (leaves l) (s.block, record { w = s.w; h = s.h })) _ (λ s k. Contains-append_left (leaves l) (leaves r) _ k) (spots_at x y l) (spot-leaves x y l))
    (each-weaker (λ s. Contains (leaves r) (s.block, record { w = s.w; h = s.h })) _ (λ s k. Contains-append_right (leaves l) (leaves r) _ k) (spots_at (x + width l) y r) (spot-leaves (x + width l) y r))
spot-leaves x y (Above l r) =
    each-append (λ s. Contains (leaves l ++ leaves r) (s.block, record { w = s.w; h = s.h })) (spots_at x y l) (spots_at x (y + height l) r)
    (each-weaker (λ s. Contains (leaves l) (s.block, record { w = s.w; h = s.h })) _ (λ s k. Contains-append_left (leaves l) (leaves r) _ k) (spots_at x y l) (spot-leaves x y l))
    (each-weaker (λ s. Contains (leaves r) (s.block, record { w = s.w; h = s.h })) _ (λ s k. Contains-append_right (leaves l) (leaves r) _ k) (spots_at x (y + height l) r) (spot-leaves x (y + height l) r))

-- the first lies left of the second or below it
abbrev pub IsFirst : Spot → Spot → Type 0
IsFirst s t = ((s.x +ℤ pos s.w) ≤ℤ t.x) ⊎ ((s.y +ℤ pos s.h) ≤ℤ t.y)

-- of two spots of a plan the first lies left of the second or below it
pub spots-first : (x y : ℕ) (t : Tree) → EachPair IsFirst (spots_at x y t)
spots-first x y (Leaf b s) = (tt, tt)
spots-first x y (Beside l r) =
    EachPair-append IsFirst (Within x y (x + width l) (y + height l)) (Within (x + width l) y ((x + width l) + width r) (y + height r))
    (λ s t u v. inl (omega (arith, ints, u.right, v.left)))
    (spots_at x y l) (spots_at (x + width l) y r) (spots-first x y l) (spots-first (x + width l) y r) (spots-within x y l) (spots-within (x + width l) y r)
spots-first x y (Above l r) =
    EachPair-append IsFirst (Within x y (x + width l) (y + height l)) (Within x (y + height l) (x + width r) ((y + height l) + height r))
    (λ s t u v. inr (omega (arith, ints, u.above, v.below)))
    (spots_at x y l) (spots_at x (y + height l) r) (spots-first x y l) (spots-first x (y + height l) r) (spots-within x y l) (spots-within x (y + height l) r)

-- what is known of the spot of a block
pub record IsPlaced (tree : Tree) (b : ℕ) (s : Spot) : Type 0 where
  pub found : Contains (spots_of tree) s
  pub block : s.block ≡ b
  pub inside : IsInside (width tree) (height tree) s
  pub leaf : Contains (leaves tree) (b, record { w = s.w; h = s.h })

-- a test passes or not
pub decided : (b : Bool) → (b ≡ true) ⊎ (b ≡ false)
decided true = inl refl
decided false = inr refl

-- an element that passes a test that some pass
pub one-passes : {X : Type 0} (test : X → Bool) (xs : List X) → 1 ≤ count_by test xs → (x : X) × Contains xs x × (test x ≡ true)
one-passes test [] h = absurd (omega arith)
one-passes test (x ∷ xs) h =
    elim (decided (test x)) [
      | inl e ↦ (x, Contains-head x xs, e)
      | inr e ↦ (let z : ◌≡◌ {A = ℕ} (cond (test x) 1 0) 0 = ap (λ (t : Bool). cond {A = ℕ} t 1 0) e in
          let k = one-passes test xs (omega (arith, h, z, count-cons test x xs)) in (k.0, Contains-tail x xs k.0 k.1, k.2))
    ]

module _ (design : Design) (tree : Tree) (legal : IsLegal design tree) where
  -- each block has one spot
  pub once : (b : ℕ) → b < block_count design → count_by (λ s. s.block == b) (spots_of tree) ≡ 1
  once b h = count-spots b 0 0 tree ∙ legal.blocks.each_once b h

  -- a spot of the plan is the one that is found by its block
  pub found-spot : (s : Spot) → Contains (spots_of tree) s → s.block < block_count design → spot_of s.block (spots_of tree) ≡ s
  found-spot s c h = spot_of-once s.block (spots_of tree) s (omega (arith, once s.block h)) c refl

  -- the block of a leaf is one of the design
  pub leaf-below : (leaf : ℕ × Shape) → Contains (leaves tree) leaf → leaf.0 < block_count design
  leaf-below leaf c = each-contains (λ v. v.0 < block_count design) (leaves tree) leaf (recursion_from_All (λ v. v.0 < block_count design) (leaves tree) legal.blocks.no_other) c

  -- the block of a spot is one of the design
  pub spot-below : (s : Spot) → Contains (spots_of tree) s → s.block < block_count design
  spot-below s c = leaf-below (s.block, record { w = s.w; h = s.h }) (each-contains (λ v. Contains (leaves tree) (v.block, record { w = v.w; h = v.h })) (spots_of tree) s (spot-leaves 0 0 tree) c)

  -- the shape of a block
  pub shape_in : ℕ → Shape
  shape_in b = let s = spot_of b (spots_of tree) in record { w = s.w; h = s.h }

  -- each leaf has the shape of its block
  pub has-shapes : AllByRecursion (λ leaf. leaf.1 ≡ shape_in leaf.0) (leaves tree)
  unfolding shape_in
  has-shapes = each-from (λ leaf. leaf.1 ≡ shape_in leaf.0) (leaves tree) (λ leaf c.
      let k = each-contains (λ v. (s : Spot) × Contains (spots_of tree) s × IsSpotOf v s) (leaves tree) leaf (leaf-spots 0 0 tree) c in
      let is : spot_of leaf.0 (spots_of tree) ≡ k.0 = spot_of-once leaf.0 (spots_of tree) k.0 (omega (arith, once leaf.0 (leaf-below leaf c))) k.1 k.2.block in
      same leaf.1 (spot_of leaf.0 (spots_of tree)) (sym k.2.wide ∙ sym (ap (λ v. v.w) is)) (sym k.2.high ∙ sym (ap (λ v. v.h) is)))
    where
      same : (p : Shape) (s : Spot) → p.w ≡ s.w → p.h ≡ s.h → p ≡ (record { w = s.w; h = s.h })
      same p s e g = ap (λ v. let r : Shape = record { w = v; h = p.h } in r) e ∙ ap (λ v. let r : Shape = record { w = s.w; h = v } in r) g

  -- the spot of a block is there, lies inside the plan and has the shape of its leaf
  pub placed : (b : ℕ) → b < block_count design → IsPlaced tree b (spot_of b (spots_of tree))
  placed b h =
      let k = one-passes (λ s. s.block == b) (spots_of tree) (omega (arith, once b h)) in
      let block : (k.0).block ≡ b = elim (cases_eq (k.0).block b) [ inl e ↦ e | inr ne ↦ absurd (differ (ne_eqb (k.0).block b ne) k.2) ] in
      let is : k.0 ≡ spot_of b (spots_of tree) = sym (spot_of-once b (spots_of tree) k.0 (omega (arith, once b h)) k.1 block) in
      subst (IsPlaced tree b) is record {
        found = k.1;
        block = block;
        inside = each-contains (IsInside (width tree) (height tree)) (spots_of tree) k.0 (recursion_from_All (IsInside (width tree) (height tree)) (spots_of tree) (spots-inside tree)) k.1;
        leaf = subst (λ v. Contains (leaves tree) (v, record { w = (k.0).w; h = (k.0).h })) block (each-contains (λ v. Contains (leaves tree) (v.block, record { w = v.w; h = v.h })) (spots_of tree) k.0 (spot-leaves 0 0 tree) k.1);
      }
    where
      differ : {v : Bool} → v ≡ false → v ≡ true → ⊥
      differ e g = cc
