-- How many parts the first tokens of a normal expression leave.
use Rattle.std.proofs.Common.{◌≡◌, ℕ, zero, suc, ◌+◌, ◌<◌, ◌≤◌, List, length, take, arith, refl, ap, true, false, not, inl, inr, subst}
use Rattle.sf_polish.specs.declared.expr.Token.TheVariants as token
use Rattle.sf_anneal.proofs.Common.{Token, IsNormal, is_operand, operands, operators, take-length, cases_lt, count_by_more_no, count_by_more_yes, both-kinds, Design, Shape, AreParts, IsPart, level, token_at}
use Rattle.sf_anneal.proofs.Places.{normal-operands}

-- no tokens leave none
pub level-none : (ts : List Token) → level ts 0 ≡ 0
level-none ts = refl

module _ (n : ℕ) (ts : List Token) (normal : IsNormal n ts) where
  -- no front has more operators than operands
  few-operators : (k : ℕ) → k ≤ length ts → operators (take k ts) ≤ operands (take k ts)
  few-operators zero h = omega arith
  few-operators (suc k) h = omega (arith, normal.ballot (suc k) (omega arith) h)

  -- each front leaves a part
  pub level-some : (k : ℕ) → 1 ≤ k → k ≤ length ts → 1 ≤ level ts k
  level-some k some h = omega (arith, normal.ballot k some h)

  -- a block is one part more
  pub level-block : (k : ℕ) → k < length ts → is_operand (token_at ts k) ≡ true → level ts (k + 1) ≡ level ts k + 1
  level-block k lt e =
      let a = count_by_more_yes is_operand ts k token.Beside lt e in
      let b = count_by_more_no (λ t. not (is_operand t)) ts k token.Beside lt (ap not e) in
      omega (arith, a, b, few-operators k (omega (arith, lt)))

  -- an operator leaves one part less
  pub level-joint : (k : ℕ) → k < length ts → is_operand (token_at ts k) ≡ false → level ts (k + 1) + 1 ≡ level ts k
  level-joint k lt e =
      let a = count_by_more_no is_operand ts k token.Beside lt e in
      let b = count_by_more_yes (λ t. not (is_operand t)) ts k token.Beside lt (ap not e) in
      omega (arith, a, b, normal.ballot (k + 1) (omega arith) (omega (arith, lt)))

  -- an operator has two parts before it
  pub left-some : (k left : ℕ) → k < length ts → is_operand (token_at ts k) ≡ false → level ts k ≡ level ts left + 1 → 1 ≤ left
  left-some k zero lt e h = absurd (omega (arith, h, level-joint k lt e, level-some (k + 1) (omega arith) (omega (arith, lt))))
  left-some k (suc left) lt e h = omega arith

  -- all tokens leave one part, so none stand before it
  pub none-before : (left : ℕ) → left ≤ length ts → level ts (length ts) ≡ level ts left + 1 → left ≡ 0
  none-before zero le h = omega arith
  none-before (suc left) le h =
      absurd (omega (arith, h, level-some (suc left) (omega arith) le, ap operands (take-length ts), ap operators (take-length ts), both-kinds ts, normal-operands n ts normal, normal.whole))

  module _ (design : Design) (count : ℕ) (before : ℕ → ℕ) (curve : ℕ → List Shape) (parts : AreParts design ts count before curve) (inside : count ≤ length ts) where
    -- a part more, by its token
    level-more : (k : ℕ) → k < count → ((j : ℕ) → 1 ≤ j → j ≤ k → level ts j ≡ level ts (before j) + 1) → (t : Token) → token_at ts k ≡ t → IsPart design before curve k t → level ts (k + 1) ≡ level ts (before (k + 1)) + 1
    level-more k lt lower token.Beside at p =
        let left = parts.lower k (omega (arith, lt)) in
        omega (arith, level-joint k (omega (arith, lt, inside)) (ap is_operand at), lower k (omega (arith, left, p.some)) (omega arith), lower (before k) p.some (omega (arith, left)), ap (level ts) p.stands)
    level-more k lt lower token.Above at p =
        let left = parts.lower k (omega (arith, lt)) in
        omega (arith, level-joint k (omega (arith, lt, inside)) (ap is_operand at), lower k (omega (arith, left, p.some)) (omega arith), lower (before k) p.some (omega (arith, left)), ap (level ts) p.stands)
    level-more k lt lower (token.Block b) at p =
        omega (arith, level-block k (omega (arith, lt, inside)) (ap is_operand at), ap (level ts) p.stands)

    -- so all parts up to this one
    levels-below : (m k : ℕ) → 1 ≤ k → k ≤ m → m ≤ count → level ts k ≡ level ts (before k) + 1
    levels-below zero k some h le = absurd (omega (arith, some, h))
    levels-below (suc m) k some h le = elim (cases_lt m k) [
      | inl over ↦ (let e : m + 1 ≡ k = omega (arith, over, h) in
          subst (λ v. level ts v ≡ level ts (before v) + 1) e (level-more m (omega (arith, le)) (λ j one below. levels-below m j one below (omega (arith, le))) (token_at ts m) refl (parts.each m (omega (arith, le)))))
      | inr below ↦ levels-below m k some below (omega (arith, le))
    ]

    -- each part leaves one more than the tokens before it
    pub parts-levels : (k : ℕ) → 1 ≤ k → k ≤ count → level ts k ≡ level ts (before k) + 1
    parts-levels k some h = levels-below count k some h (omega arith)
