-- The chain is a normal expression.
use Rattle.std.proofs.Common.{◌≡◌, ℕ, zero, suc, ◌<◌, ◌≤◌, [], ◌∷◌, ◌++◌, arith, refl, ap, subst, ◌∙◌, cond, inl, inr, ◌==◌, count_by}
use Rattle.std.proofs.Common.{append_assoc}
use Rattle.sf_polish.specs.declared.expr.Token.TheVariants as token
use Rattle.sf_anneal.proofs.Common.{AllByRecursion, All-from_recursion, IsNormal, cases_lt, eqb_tells, sum_by-append, sum_by-cons, Tree, Leaf, Beside, leaves, HasEachOnce, each-append, IsSkewed, postfix, no_shape, postfix-normal, Shape, chain}

-- the blocks from 0 to n side by side
abbrev row : ℕ → Tree
row zero = Leaf 0 no_shape
row (suc n) = Beside (row n) (Leaf (suc n) no_shape)

-- its postfix is the chain
row-postfix : (n : ℕ) → postfix (row n) ≡ chain (suc n)
row-postfix zero = refl
row-postfix (suc n) =
    append_assoc (postfix (row n)) (token.Block (suc n) ∷ []) (token.Beside ∷ [])
    ∙ ap (λ z. z ++ token.Block (suc n) ∷ token.Beside ∷ []) (row-postfix n)

-- no node has the operator of its right child
row-skewed : (n : ℕ) → IsSkewed (row n)
row-skewed zero = tt
row-skewed (suc n) = (row-skewed n, tt, refl)

-- all blocks are below a number that n is below
row-below : (n m : ℕ) → n < m → AllByRecursion (λ leaf. leaf.0 < m) (leaves (row n))
row-below zero m h = (h, tt)
row-below (suc n) m h = each-append _ (leaves (row n)) ((suc n, no_shape) ∷ []) (row-below n m (omega arith)) (h, tt)

-- how often a block is the only leaf
alone : (n b : ℕ) → count_by (λ (leaf : ℕ × Shape). leaf.0 == b) ((n, no_shape) ∷ []) ≡ cond (n == b) 1 0
alone n b = omega (arith, sum_by-cons (λ (leaf : ℕ × Shape). cond (leaf.0 == b) 1 0) (n, no_shape) [])

-- how often a block is a leaf of the row
row-count : (n b : ℕ) → ((b ≤ n) → count_by (λ (leaf : ℕ × Shape). leaf.0 == b) (leaves (row n)) ≡ 1) × ((n < b) → count_by (λ (leaf : ℕ × Shape). leaf.0 == b) (leaves (row n)) ≡ 0)
row-count zero b = elim (eqb_tells 0 b) [
  | inl p ↦ (λ h. alone 0 b ∙ ap (λ z. cond z 1 0) p.0, λ h. absurd (omega (arith, p.1, h)))
  | inr p ↦ (λ h. absurd (p.1 (omega (arith, h))), λ h. alone 0 b ∙ ap (λ z. cond z 1 0) p.0)
]
row-count (suc n) b =
    let before = row-count n b in
    let sum = sum_by-append (λ (leaf : ℕ × Shape). cond (leaf.0 == b) 1 0) (leaves (row n)) ((suc n, no_shape) ∷ []) in
    let last = alone (suc n) b in
    elim (eqb_tells (suc n) b) [
      | inl p ↦ (let one : ◌≡◌ {A = ℕ} (cond (suc n == b) 1 0) 1 = ap (λ z. cond z 1 0) p.0 in
          let none = before.1 (omega (arith, p.1)) in (λ h. omega (arith, sum, last, one, none), λ h. absurd (omega (arith, p.1, h))))
      | inr p ↦ (let zero : ◌≡◌ {A = ℕ} (cond (suc n == b) 1 0) 0 = ap (λ z. cond z 1 0) p.0 in (
        λ h. omega (arith, sum, last, zero, before.0 (at_most n b p.1 h)),
        λ h. omega (arith, sum, last, zero, before.1 (omega (arith, h))),
      ))
    ]
  where
    at_most : (n b : ℕ) → (suc n ≡ b → ⊥) → b ≤ suc n → b ≤ n
    at_most n b ne h = elim (cases_lt b (suc n)) [ inl lt ↦ omega (arith, lt) | inr ge ↦ absurd (ne (omega (arith, h, ge))) ]

-- each block is one leaf, and no other is
row-once : (n : ℕ) → HasEachOnce (suc n) (row n)
row-once n = record {
  each_once = λ b h. (row-count n b).0 (omega (arith, h));
  no_other = All-from_recursion (λ leaf. leaf.0 < suc n) (leaves (row n)) (row-below n (suc n) (omega arith));
}

-- the chain is normal
pub chain-normal : (n : ℕ) → 1 ≤ n → IsNormal n (chain n)
chain-normal zero h = absurd (omega (arith, h))
chain-normal (suc n) h = subst (IsNormal (suc n)) (row-postfix n) (postfix-normal (suc n) (row n) (row-once n) (row-skewed n))
