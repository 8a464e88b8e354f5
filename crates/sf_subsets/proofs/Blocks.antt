-- The least areas of blocks, and the plans of all blocks.
use Rattle.std.proofs.Common.{◌≡◌, ℕ, ◌+◌, ◌-◌, ◌^◌, ◌<◌, ◌≤◌, ◌⊎◌, inl, inr, List, [], ◌∷◌, ◌++◌, length, get_or, cond, arith, refl, ap, ◌∙◌, ◌==◌}
use Rattle.sf_subsets.proofs.Common.{All, All-contains, Contains, Design, IsLeastArea, IsPlanOf, IsWithin, Outline, Shape, Tree, area_of, block_count, cases_lt, count_by, eqb_tells, leaves, mul-le-mul, sum_by-cons, AllByRecursion, bit_at_ones, bit_at_ones_above, All-from_recursion, IsLegal, IsSide, IsLeastOf}

-- the point of least area is no larger than each
pub least-le : (points : List Shape) (p q : Shape) → IsLeastArea points p → Contains points q → area_of p ≤ area_of q
least-le points p q h c =
    elim (All-contains (λ q. (area_of p < area_of q) ⊎ ((area_of p ≡ area_of q) × (p.w ≤ q.w))) points q h.least c) [
      | inl lt ↦ omega (arith, lt)
      | inr e ↦ omega (arith, e.0)
    ]

-- a size that lies in the outline is small
pub within-small : (o : Outline) (p : Shape) → IsSide o.w → IsSide o.h → IsWithin o p → area_of p ≤ 2 ^ 40
within-small o p wide high fit =
    let w : p.w ≤ 1048576 = omega (arith, fit.0, wide.1) in
    let t : p.h ≤ 1048576 = omega (arith, fit.1, high.1) in
    omega (arith, mul-le-mul w t)

-- and so is the least area of such sizes
pub least-small : (o : Outline) (points : List Shape) (p : Shape) → IsSide o.w → IsSide o.h → All (IsWithin o) points → IsLeastArea points p → area_of p ≤ 2 ^ 40
least-small o points p wide high within h =
    within-small o p wide high (All-contains (IsWithin o) points p within h.found)

-- the least areas of the first blocks
abbrev pub AreFirstLeasts : Design → ℕ → List ℕ → Type 0
AreFirstLeasts design n leasts = (length leasts ≡ n) × ((b : ℕ) → b < n → IsLeastOf design b (get_or leasts b 0))

-- no block from n on is counted, so each is below n
below-all : (n : ℕ) (xs : List (ℕ × Shape)) → ((b : ℕ) → n ≤ b → count_by (λ leaf. leaf.0 == b) xs ≡ 0) → AllByRecursion (λ leaf. leaf.0 < n) xs
below-all n [] h = tt
below-all n (x ∷ xs) h =
    let cons = λ (b : ℕ). sum_by-cons {X = ℕ × Shape} (λ leaf. cond (leaf.0 == b) 1 0) x xs in (
      elim (cases_lt x.0 n) [
        | inl lt ↦ lt
        | inr ge ↦ elim (eqb_tells x.0 x.0) [
          | inl p ↦ (let e : ◌≡◌ {A = ℕ} (cond (x.0 == x.0) 1 0) 1 = ap (λ v. cond {A = ℕ} v 1 0) p.0 in absurd (omega (arith, e, cons x.0, h x.0 ge)))
          | inr p ↦ absurd (p.1 refl)
        ]
      ],
      below-all n xs (λ b le. omega (arith, h b le, cons b)),
    )

-- a plan of all blocks is a floorplan
pub plan-legal : (design : Design) (tree : Tree) → IsPlanOf design (2 ^ block_count design - 1) tree → IsLegal design tree
plan-legal design tree plan =
    let n = block_count design in
    record {
      blocks = record {
        each_once = λ b lt. plan.blocks b ∙ bit_at_ones n b lt;
        no_other = All-from_recursion (λ leaf. leaf.0 < n) (leaves tree) (below-all n (leaves tree) (λ b le. plan.blocks b ∙ bit_at_ones_above n b le));
      };
      listed = plan.listed;
    }
