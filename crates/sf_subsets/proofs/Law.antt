-- A curve covers the plans of a set where it covers what the curves of each split join to.
use Rattle.std.proofs.Common.{◌≡◌, ℕ, ◌+◌, ◌-◌, ◌^◌, ◌<◌, ◌≤◌, inl, inr, List, [], ◌∷◌, cond, arith, refl, ap, sym, subst, ◌==◌}
use Rattle.sf_subsets.proofs.Common.{Any, AreLeasts, Contains, Design, Direction, IsCoveredWithin, IsNoLarger, IsPart, IsPlanOf, IsSplit, IsWithin, Leaf, Outline, Shape, Tree, area_of, bit_at, bit_at-zero, block_count, cases_lt, count_by, eqb_tells, leaves, mul-le-mul, shapes_of, size_in, size_of, sum_by-cons, total, AllByRecursion, same_from_bits, bit_at_above, bit_at_ones, bit_at_ones_above, recursion_from_All, ne_eqb, IsLegal, Beside, Above, beside_size, above_size, Any-weaker, CoversPair, Covers}
use Rattle.sf_curves.specs.declared.direction.Direction.TheVariants as d
use Rattle.sf_curves.proofs.OnCurve.{same_point}
use Rattle.sf_subsets.proofs.Bits.{split-total, split-sum, top-below, top-here, top-above}
use Rattle.sf_subsets.proofs.Plans.{IsCut, cut-beside, cut-above, leaf-here, leaf-other, leaf-listed, area-beside, area-above, total-le-area}

-- the set of a plan has a block
pub set-some : (design : Design) (set : ℕ) (tree : Tree) → IsPlanOf design set tree → 0 < set
set-some design set (Leaf b s) plan =
    elim (cases_lt 0 set) [
      | inl lt ↦ lt
      | inr le ↦ (let e : set ≡ 0 = omega arith in
          let f : bit_at 0 b ≡ 1 = subst (λ v. bit_at v b ≡ 1) e (leaf-here design set b s plan) in
          absurd (omega (arith, f, bit_at-zero b)))
    ]
set-some design set (Beside l r) plan =
    let c = cut-beside design set l r plan in
    omega (arith, split-sum c.first c.second set c.split, set-some design c.first l c.left)
set-some design set (Above l r) plan =
    let c = cut-above design set l r plan in
    omega (arith, split-sum c.first c.second set c.split, set-some design c.first l c.left)

-- no larger a size has no larger an area
pub area-no_larger : (p q : Shape) → IsNoLarger p q → area_of p ≤ area_of q
area-no_larger p q h = mul-le-mul h.0 h.1

-- the order of two rooms doesn't change the size of both
size-swapped : (dir : Direction) (p q : Shape) → size_in dir p q ≡ size_in dir q p
size-swapped d.Beside p q = same_point (beside_size p q) (beside_size q p) (omega arith) (omega arith)
size-swapped d.Above p q = same_point (above_size p q) (above_size q p) (omega arith) (omega arith)

-- so a pair covers what the turned pair does
pair-swapped : (o : Outline) (limit : ℕ) (left right points : List Shape) → CoversPair o limit left right points → CoversPair o limit right left points
pair-swapped o limit left right points h p q dir cp cq =
    subst (IsCoveredWithin o limit points) (size-swapped dir q p) (h q p dir cq cp)

-- the join of two plans is no smaller than the join of points that are no larger
join-larger : (dir : Direction) (p q s t : Shape) → IsNoLarger p s → IsNoLarger q t → IsNoLarger (size_in dir p q) (size_in dir s t)
join-larger d.Beside p q s t h k = (omega (arith, h.0, k.0), omega (arith, h.1, k.1))
join-larger d.Above p q s t h k = (omega (arith, h.0, k.0), omega (arith, h.1, k.1))

-- it has the room of both
pub area-in : (dir : Direction) (p q : Shape) → area_of p + area_of q ≤ area_of (size_in dir p q)
area-in d.Beside p q = area-beside p q
area-in d.Above p q = area-above p q

-- each of two rooms fits where both do
within-first : (dir : Direction) (o : Outline) (p q : Shape) → IsWithin o (size_in dir p q) → IsWithin o p × IsWithin o q
within-first d.Beside o p q h = ((omega (arith, h.0), omega (arith, h.1)), (omega (arith, h.0), omega (arith, h.1)))
within-first d.Above o p q h = ((omega (arith, h.0), omega (arith, h.1)), (omega (arith, h.0), omega (arith, h.1)))

module _ (design : Design) (leasts : List ℕ) (floor : AreLeasts design leasts) (dead : ℕ) where
  -- where the curves of two sets cover their plans, what covers their joins covers the joined plans
  joined-covered : (dir : Direction) (set first second : ℕ) (l r : Tree) (left right points : List Shape) → IsSplit first second set → IsPlanOf design first l → IsPlanOf design second r → Covers design leasts dead first left → Covers design leasts dead second right → CoversPair design.outline (total leasts set + dead) left right points → IsCoveredWithin design.outline (total leasts set + dead) points (size_in dir (size_of l) (size_of r))
  joined-covered dir set first second l r left right points split pl pr cl cr pair fit small =
      let w = within-first dir design.outline (size_of l) (size_of r) fit in
      let tl : total leasts first ≤ area_of (size_of l) = total-le-area design leasts floor first l pl w.0 in
      let tr : total leasts second ≤ area_of (size_of r) = total-le-area design leasts floor second r pr w.1 in
      let both = split-total leasts first second set split in
      let room = area-in dir (size_of l) (size_of r) in
      let x : Any (λ p. IsNoLarger p (size_of l)) left = cl l pl w.0 (omega (arith, tr, both, room, small)) in
      let y : Any (λ p. IsNoLarger p (size_of r)) right = cr r pr w.1 (omega (arith, tl, both, room, small)) in
      let le = join-larger dir x.1 y.1 (size_of l) (size_of r) x.4 y.4 in
      Any-weaker (λ p. IsNoLarger p (size_in dir x.1 y.1)) (λ p. IsNoLarger p (size_in dir (size_of l) (size_of r))) points
      (λ p n. (omega (arith, n.0, le.0), omega (arith, n.1, le.1)))
      (pair x.1 y.1 dir (x.0, x.2, x.3) (y.0, y.2, y.3) (omega (arith, le.0, fit.0), omega (arith, le.1, fit.1)) (omega (arith, area-no_larger (size_in dir x.1 y.1) (size_in dir (size_of l) (size_of r)) le, small)))

  -- what a curve of a set with the top block k and the others r is made of: the shapes of the block where there is no other, and the joins of each split, of which one part without k is enough
  pub record IsFilled (k r : ℕ) (table : ℕ → List Shape) (points : List Shape) : Type 0 where
    pub pairs : (b : ℕ) → 0 < b → IsPart b r → CoversPair design.outline (total leasts (2 ^ k + r) + dead) (table (2 ^ k + r - b)) (table b) points
    pub singles : r ≡ 0 → (s : Shape) → Contains (shapes_of design k) s → IsCoveredWithin design.outline (total leasts (2 ^ k + r) + dead) points s

  module _ (k r : ℕ) (lt : r < 2 ^ k) (table : ℕ → List Shape) (below : (s : ℕ) → s < 2 ^ k + r → Covers design leasts dead s (table s)) (points : List Shape) (filled : IsFilled k r table points) where
    -- the part without the top block is a part of the others
    lower-part : (first second : ℕ) → IsSplit first second (2 ^ k + r) → bit_at second k ≡ 0 → IsPart second r
    lower-part first second split none i =
        elim (cases_lt i k) [
          | inl low ↦ omega (arith, split i, top-below k r lt i low)
          | inr ge ↦ elim (cases_lt k i) [
            | inl high ↦ omega (arith, split i, top-above k r lt i high)
            | inr le ↦ (let e : i ≡ k = omega arith in subst (λ v. bit_at second v ≤ bit_at r v) (sym e) (omega (arith, none)))
          ]
        ]

    -- the joins of a split are covered, by the part that has the top block first
    split-pair : (first second : ℕ) → IsSplit first second (2 ^ k + r) → 0 < second → bit_at second k ≡ 0 → CoversPair design.outline (total leasts (2 ^ k + r) + dead) (table first) (table second) points
    split-pair first second split some none =
        let e : 2 ^ k + r - second ≡ first = omega (arith, split-sum first second (2 ^ k + r) split) in
        subst (λ v. CoversPair design.outline (total leasts (2 ^ k + r) + dead) (table v) (table second) points) e
        (filled.pairs second some (lower-part first second split none))

    -- a plan of two parts is covered
    cut-covered : (dir : Direction) (l t : Tree) → IsCut design (2 ^ k + r) l t → IsCoveredWithin design.outline (total leasts (2 ^ k + r) + dead) points (size_in dir (size_of l) (size_of t))
    cut-covered dir l t c =
        let sum = split-sum c.first c.second (2 ^ k + r) c.split in
        let sl = set-some design c.first l c.left in
        let st = set-some design c.second t c.right in
        let here = top-here k r lt in
        let pair : CoversPair design.outline (total leasts (2 ^ k + r) + dead) (table c.first) (table c.second) points =
        elim (cases_lt (bit_at c.second k) 1) [
          | inl zero' ↦ split-pair c.first c.second c.split st (omega arith)
          | inr one ↦ pair-swapped design.outline (total leasts (2 ^ k + r) + dead) (table c.second) (table c.first) points
              (split-pair c.second c.first (λ i. omega (arith, c.split i)) sl (omega (arith, c.split k, here, one)))
        ] in
        joined-covered dir (2 ^ k + r) c.first c.second l t (table c.first) (table c.second) points c.split c.left c.right
        (below c.first (omega (arith, sum, st))) (below c.second (omega (arith, sum, sl))) pair

    -- a leaf of a set is its top block
    leaf-top : (b : ℕ) (s : Shape) → IsPlanOf design (2 ^ k + r) (Leaf b s) → b ≡ k
    leaf-top b s plan =
        elim (eqb_tells b k) [
          | inl p ↦ p.1
          | inr p ↦ absurd (omega (arith, top-here k r lt, leaf-other design (2 ^ k + r) b s plan k (λ e. p.1 (sym e))))
        ]

    -- and there is no other block
    leaf-alone : (b : ℕ) (s : Shape) → IsPlanOf design (2 ^ k + r) (Leaf b s) → r ≡ 0
    leaf-alone b s plan =
        same_from_bits r 0 (λ i. elim (cases_lt i k) [
          | inl low ↦ (let e : b ≡ k = leaf-top b s plan in omega (arith, bit_at-zero i, top-below k r lt i low, leaf-other design (2 ^ k + r) b s plan i (λ f. absurd (omega (arith, e, f, low)))))
          | inr ge ↦ omega (arith, bit_at-zero i, bit_at_above r k i lt ge)
        ])

    -- so the curve covers all plans of the set
    pub filled-covers : Covers design leasts dead (2 ^ k + r) points
    filled-covers (Leaf b s) plan =
        filled.singles (leaf-alone b s plan) s
        (subst (λ v. Contains (shapes_of design v) s) (leaf-top b s plan) (leaf-listed design (2 ^ k + r) b s plan))
    filled-covers (Beside l t) plan = cut-covered d.Beside l t (cut-beside design (2 ^ k + r) l t plan)
    filled-covers (Above l t) plan = cut-covered d.Above l t (cut-above design (2 ^ k + r) l t plan)

-- no leaf is a block from n on
times-above : (n b : ℕ) → n ≤ b → (xs : List (ℕ × Shape)) → AllByRecursion (λ leaf. leaf.0 < n) xs → count_by (λ leaf. leaf.0 == b) xs ≡ 0
times-above n b le [] h = refl
times-above n b le (x ∷ xs) h =
    let e : ◌≡◌ {A = ℕ} (cond (x.0 == b) 1 0) 0 = ap (λ v. cond {A = ℕ} v 1 0) (ne_eqb x.0 b (λ k. absurd (omega (arith, k, h.0, le)))) in
    omega (arith, e, sum_by-cons {X = ℕ × Shape} (λ leaf. cond (leaf.0 == b) 1 0) x xs, times-above n b le xs h.1)

-- a floorplan is a plan of all blocks
pub legal-plan : (design : Design) (tree : Tree) → IsLegal design tree → IsPlanOf design (2 ^ block_count design - 1) tree
legal-plan design tree legal =
    let n = block_count design in
    record {
      blocks = λ b. elim (cases_lt b n) [
        | inl lt ↦ omega (arith, legal.blocks.each_once b lt, bit_at_ones n b lt)
        | inr ge ↦ omega (arith, times-above n b ge (leaves tree) (recursion_from_All (λ leaf. leaf.0 < n) (leaves tree) legal.blocks.no_other), bit_at_ones_above n b ge)
      ];
      listed = legal.listed;
    }
