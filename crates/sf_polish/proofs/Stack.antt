-- What stands before each token of a plan's postfix.
use Rattle.std.proofs.Common.{◌≡◌, ℕ, ◌+◌, ◌-◌, ◌*◌, ◌≤◌, List, [], ◌∷◌, ◌++◌, length, arith, refl, ap, sym, subst, ◌∙◌, false, cond, not, ◌==◌}
use Rattle.sf_polish.proofs.Common.{count_by, IsFalse, ⊤, sum_by-append, sum_by-cons, Tree, Leaf, Beside, Above, leaves, Token, is_operand, is_block, same_operator, last_or, ends_in, operands, operators, postfix, is_beside, is_above, IsSkewed}
use Rattle.std.proofs.Common.{length-append}
use Rattle.sf_polish.specs.declared.expr.Token.TheVariants as token

-- reading the tokens takes a stack of h items to one of g
abbrev pub Reads : ℕ → List Token → ℕ → Type 0
Reads h [] g = h ≡ g
Reads h (token.Beside ∷ ts) g = (2 ≤ h) × Reads (h - 1) ts g
Reads h (token.Above ∷ ts) g = (2 ≤ h) × Reads (h - 1) ts g
Reads h (token.Block b ∷ ts) g = Reads (h + 1) ts g

-- what is read to g plans, and then on to k, is read to k
pub Reads-append : (xs ys : List Token) (h g k : ℕ) → Reads h xs g → Reads g ys k → Reads h (xs ++ ys) k
Reads-append [] ys h g k p q = subst (λ n. Reads n ys k) (sym p) q
Reads-append (token.Beside ∷ xs) ys h g k p q = (p.0, Reads-append xs ys (h - 1) g k p.1 q)
Reads-append (token.Above ∷ xs) ys h g k p q = (p.0, Reads-append xs ys (h - 1) g k p.1 q)
Reads-append (token.Block b ∷ xs) ys h g k p q = Reads-append xs ys (h + 1) g k p q

-- what is read to k plans is read to some number first, and then on to k
pub Reads-split : (xs ys : List Token) (h k : ℕ) → Reads h (xs ++ ys) k → (g : ℕ) × (Reads h xs g × Reads g ys k)
Reads-split [] ys h k p = (h, (refl, p))
Reads-split (token.Beside ∷ xs) ys h k p = let r = Reads-split xs ys (h - 1) k p.1 in (r.0, ((p.0, r.1.0), r.1.1))
Reads-split (token.Above ∷ xs) ys h k p = let r = Reads-split xs ys (h - 1) k p.1 in (r.0, ((p.0, r.1.0), r.1.1))
Reads-split (token.Block b ∷ xs) ys h k p = Reads-split xs ys (h + 1) k p

-- the postfix of a plan is read to one plan more
pub Reads-postfix : (t : Tree) (h : ℕ) → Reads h (postfix t) (h + 1)
Reads-postfix (Leaf b s) h = refl
Reads-postfix (Beside l r) h =
    Reads-append (postfix l ++ postfix r) (token.Beside ∷ []) h ((h + 1) + 1) (h + 1)
    (Reads-append (postfix l) (postfix r) h (h + 1) ((h + 1) + 1) (Reads-postfix l h) (Reads-postfix r (h + 1)))
    (omega arith, omega arith)
Reads-postfix (Above l r) h =
    Reads-append (postfix l ++ postfix r) (token.Above ∷ []) h ((h + 1) + 1) (h + 1)
    (Reads-append (postfix l) (postfix r) h (h + 1) ((h + 1) + 1) (Reads-postfix l h) (Reads-postfix r (h + 1)))
    (omega arith, omega arith)

-- each operand adds a plan, and each operator takes one
pub Reads-counts : (ts : List Token) (h g : ℕ) → Reads h ts g → operands ts + h ≡ operators ts + g
Reads-counts [] h g p = omega arith
Reads-counts (token.Beside ∷ ts) h g p =
    let a : operands (token.Beside ∷ ts) ≡ 0 + operands ts = sum_by-cons (λ x. cond (is_operand x) 1 0) token.Beside ts in
    let b : operators (token.Beside ∷ ts) ≡ 1 + operators ts = sum_by-cons (λ x. cond (not (is_operand x)) 1 0) token.Beside ts in
    omega (arith, p.0, Reads-counts ts (h - 1) g p.1)
Reads-counts (token.Above ∷ ts) h g p =
    let a : operands (token.Above ∷ ts) ≡ 0 + operands ts = sum_by-cons (λ x. cond (is_operand x) 1 0) token.Above ts in
    let b : operators (token.Above ∷ ts) ≡ 1 + operators ts = sum_by-cons (λ x. cond (not (is_operand x)) 1 0) token.Above ts in
    omega (arith, p.0, Reads-counts ts (h - 1) g p.1)
Reads-counts (token.Block n ∷ ts) h g p =
    let a : operands (token.Block n ∷ ts) ≡ 1 + operands ts = sum_by-cons (λ x. cond (is_operand x) 1 0) (token.Block n) ts in
    let b : operators (token.Block n ∷ ts) ≡ 0 + operators ts = sum_by-cons (λ x. cond (not (is_operand x)) 1 0) (token.Block n) ts in
    omega (arith, Reads-counts ts (h + 1) g p)

-- an operator in a postfix has two items before it
pub two-before : (t : Tree) (ts rest : List Token) (s : Token) → is_operand s ≡ false → postfix t ≡ ts ++ s ∷ rest → operators ts + 2 ≤ operands ts
two-before t ts rest s o e =
    let reads : Reads 0 (ts ++ s ∷ rest) 1 = subst (λ z. Reads 0 z 1) e (Reads-postfix t 0) in
    let parts = Reads-split ts (s ∷ rest) 0 1 reads in
    let two : (u : Token) → is_operand u ≡ false → Reads parts.0 (u ∷ rest) 1 → 2 ≤ parts.0 = λ u. elim u as (λ v. is_operand v ≡ false → Reads parts.0 (v ∷ rest) 1 → 2 ≤ parts.0) [ token.Beside ↦ λ k p. p.0 | token.Above ↦ λ k p. p.0 | token.Block b ↦ λ k p. (cc) ] in
    omega (arith, two s o parts.1.1, Reads-counts ts 0 parts.0 parts.1.0)

-- no operator follows its like, where p stands before the tokens
abbrev pub Alternating : Token → List Token → Type 0
Alternating p [] = ⊤
Alternating p (x ∷ xs) = IsFalse (same_operator p x) × Alternating x xs

-- tokens that alternate go on with tokens that alternate behind their last one
pub Alternating-append : (p : Token) (xs ys : List Token) → Alternating p xs → Alternating (last_or p xs) ys → Alternating p (xs ++ ys)
Alternating-append p [] ys a b = b
Alternating-append p (x ∷ xs) ys a b = (a.0, Alternating-append x xs ys a.1 b)

-- the later part of tokens that alternate does so behind the last one of the first part
pub Alternating-after : (p : Token) (xs ys : List Token) → Alternating p (xs ++ ys) → Alternating (last_or p xs) ys
Alternating-after p [] ys a = a
Alternating-after p (x ∷ xs) ys a = Alternating-after x xs ys a.1

-- the first part of tokens that alternate does so
pub Alternating-before : (p : Token) (xs ys : List Token) → Alternating p (xs ++ ys) → Alternating p xs
Alternating-before p [] ys a = tt
Alternating-before p (x ∷ xs) ys a = (a.0, Alternating-before x xs ys a.1)

-- the last token of two lists is that of the second, or else of the first
last_or-append : (p : Token) (xs ys : List Token) → last_or p (xs ++ ys) ≡ last_or (last_or p xs) ys
last_or-append p [] ys = refl
last_or-append p (x ∷ xs) ys = last_or-append x xs ys

-- the operator or the block at the top of a tree
abbrev pub top : Tree → Token
top (Leaf b s) = token.Block b
top (Beside l r) = token.Beside
top (Above l r) = token.Above

-- the last token of a plan's postfix is the plan's own
pub last_or-postfix : (p : Token) (t : Tree) → last_or p (postfix t) ≡ top t
last_or-postfix p (Leaf b s) = refl
last_or-postfix p (Beside l r) = last_or-append p (postfix l ++ postfix r) (token.Beside ∷ [])
last_or-postfix p (Above l r) = last_or-append p (postfix l ++ postfix r) (token.Above ∷ [])

-- a block is the same operator as no token
block_after : (p : Token) (b : ℕ) → same_operator p (token.Block b) ≡ false
block_after token.Beside b = refl
block_after token.Above b = refl
block_after (token.Block c) b = refl

-- a plan that is no Beside does not end in that operator
not_beside : (t : Tree) → is_beside t ≡ false → same_operator (top t) token.Beside ≡ false
not_beside (Leaf b s) h = refl
not_beside (Beside l r) h = h
not_beside (Above l r) h = refl

-- a plan that is no Above does not end in that operator
not_above : (t : Tree) → is_above t ≡ false → same_operator (top t) token.Above ≡ false
not_above (Leaf b s) h = refl
not_above (Beside l r) h = refl
not_above (Above l r) h = h

-- the postfix of a skewed plan alternates
pub Alternating-postfix : (p : Token) (t : Tree) → IsSkewed t → Alternating p (postfix t)
Alternating-postfix p (Leaf b s) k = (block_after p b, tt)
Alternating-postfix p (Beside l r) k =
    Alternating-append p (postfix l ++ postfix r) (token.Beside ∷ [])
    (Alternating-append p (postfix l) (postfix r) (Alternating-postfix p l k.0) (Alternating-postfix (last_or p (postfix l)) r k.1))
    (ap (λ z. same_operator z token.Beside) (last_or-append p (postfix l) (postfix r) ∙ last_or-postfix (last_or p (postfix l)) r) ∙ not_beside r k.2, tt)
Alternating-postfix p (Above l r) k =
    Alternating-append p (postfix l ++ postfix r) (token.Above ∷ [])
    (Alternating-append p (postfix l) (postfix r) (Alternating-postfix p l k.0) (Alternating-postfix (last_or p (postfix l)) r k.1))
    (ap (λ z. same_operator z token.Above) (last_or-append p (postfix l) (postfix r) ∙ last_or-postfix (last_or p (postfix l)) r) ∙ not_above r k.2, tt)

-- a token of a skewed plan's postfix isn't the operator before it
pub another-before : (t : Tree) (ts rest : List Token) (s : Token) → IsSkewed t → postfix t ≡ ts ++ s ∷ rest → ends_in s ts ≡ false
another-before t ts rest s k e =
    (Alternating-after (token.Block 0) ts (s ∷ rest) (subst (λ z. Alternating (token.Block 0) z) e (Alternating-postfix (token.Block 0) t k))).0

-- a block stands in the postfix as often as among the leaves
pub count_by-postfix : (b : ℕ) (t : Tree) → count_by (is_block b) (postfix t) ≡ count_by (λ leaf. leaf.0 == b) (leaves t)
count_by-postfix b (Leaf c s) = refl
count_by-postfix b (Beside l r) =
    omega (arith, sum_by-append (λ x. cond (is_block b x) 1 0) (postfix l ++ postfix r) (token.Beside ∷ []), sum_by-append (λ x. cond (is_block b x) 1 0) (postfix l) (postfix r), sum_by-append (λ leaf. cond (leaf.0 == b) 1 0) (leaves l) (leaves r), count_by-postfix b l, count_by-postfix b r)
count_by-postfix b (Above l r) =
    omega (arith, sum_by-append (λ x. cond (is_block b x) 1 0) (postfix l ++ postfix r) (token.Above ∷ []), sum_by-append (λ x. cond (is_block b x) 1 0) (postfix l) (postfix r), sum_by-append (λ leaf. cond (leaf.0 == b) 1 0) (leaves l) (leaves r), count_by-postfix b l, count_by-postfix b r)

-- the postfix has one token fewer than twice the leaves
pub length-postfix : (t : Tree) → length (postfix t) + 1 ≡ 2 * length (leaves t)
length-postfix (Leaf b s) = refl
length-postfix (Beside l r) =
    omega (arith, length-append (postfix l ++ postfix r) (token.Beside ∷ []), length-append (postfix l) (postfix r), length-append (leaves l) (leaves r), length-postfix l, length-postfix r)
length-postfix (Above l r) =
    omega (arith, length-append (postfix l ++ postfix r) (token.Above ∷ []), length-append (postfix l) (postfix r), length-append (leaves l) (leaves r), length-postfix l, length-postfix r)
