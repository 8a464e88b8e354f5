-- The postfix of a skewed plan is normal, and each normal expression stands for one skewed plan.
use Rattle.std.proofs.Common.{◌≡◌, ℕ, suc, ◌+◌, ◌-◌, ◌<◌, ◌≤◌, List, [], ◌∷◌, ◌++◌, length, take, drop, get_or, take-append-drop, length-take, arith, refl, ap, sym, subst, ◌∙◌, false, cond, not, ◌==◌}
use Prim.Native.Nat.{zero}
use Rattle.sf_polish.proofs.Common.{IsFalse, count_by, nat_lt, AllByRecursion, lt-ltb, ltb-true, not_from_true, true_from_ne_false, true≢false, All-from_recursion, recursion_from_All, sum_by-cons, length-each_once, Tree, Leaf, Beside, Above, leaves, HasEachOnce, length-leaves_once, each-append, each-left, each-right, Token, is_operand, is_block, is_outside, same_operator, operands, operators, IsBallot, Alternates, IsNormal, Expr, postfix, IsSkewed}
use Rattle.sf_polish.specs.declared.expr.Token.TheVariants as token
use Rattle.sf_polish.proofs.Spelling.{IsSkewedTreeOf, spelled-tree}
use Rattle.sf_polish.proofs.Stack.{Reads, Reads-split, Reads-postfix, Reads-counts, Alternating, Alternating-postfix, count_by-postfix, length-postfix}

-- reading from at least one plan leaves at least one
Reads-some : (ts : List Token) (h g : ℕ) → 1 ≤ h → Reads h ts g → 1 ≤ g
Reads-some [] h g k r = omega (arith, r)
Reads-some (token.Beside ∷ ts) h g k r = Reads-some ts (h - 1) g (omega (arith, r.0)) r.1
Reads-some (token.Above ∷ ts) h g k r = Reads-some ts (h - 1) g (omega (arith, r.0)) r.1
Reads-some (token.Block b ∷ ts) h g k r = Reads-some ts (h + 1) g (omega arith) r

-- reading at least one token from no plan leaves at least one
pub Reads-first : (ts : List Token) (g : ℕ) → 1 ≤ length ts → Reads 0 ts g → 1 ≤ g
Reads-first [] g k r = absurd (omega arith)
Reads-first (token.Beside ∷ ts) g k r = absurd (omega (arith, r.0))
Reads-first (token.Above ∷ ts) g k r = absurd (omega (arith, r.0))
Reads-first (token.Block b ∷ ts) g k r = Reads-some ts (0 + 1) g (omega arith) r

-- tokens that are read from no plan keep the ballot rule
pub Reads-ballot : (ts : List Token) (g : ℕ) → Reads 0 ts g → IsBallot ts
Reads-ballot ts g r k low high =
    let whole : Reads 0 (take k ts ++ drop k ts) g = subst (λ z. Reads 0 z g) (sym (take-append-drop k ts)) r in
    let parts = Reads-split (take k ts) (drop k ts) 0 g whole in
    omega (arith, Reads-counts (take k ts) 0 parts.0 parts.1.0, Reads-first (take k ts) parts.0 (omega (arith, length-take k ts)) parts.1.0)

-- in tokens that alternate no two neighbours are the same operator
Alternating-adjacent : (p : Token) (ts : List Token) → Alternating p ts → (k : ℕ) (d : Token) → k + 1 < length (p ∷ ts) → same_operator (get_or (p ∷ ts) k d) (get_or (p ∷ ts) (k + 1) d) ≡ false
Alternating-adjacent p [] a k d h = absurd (omega arith)
Alternating-adjacent p (x ∷ ts) a zero d h = a.0
Alternating-adjacent p (x ∷ ts) a (suc k) d h =
    let e : suc k + 1 ≡ suc (k + 1) = omega arith in
    ap (λ n. same_operator (get_or (x ∷ ts) k d) (get_or (p ∷ x ∷ ts) n d)) e ∙ Alternating-adjacent x ts a.1 k d (omega arith)

-- tokens that alternate behind some token alternate by themselves
pub alternates : (p : Token) (ts : List Token) → Alternating p ts → Alternates ts
alternates p [] a k d h = absurd (omega arith)
alternates p (x ∷ ts) a k d h = Alternating-adjacent x ts a.1 k d h

-- where all leaves are blocks below n, no token of the postfix is outside n blocks
postfix-inside : (n : ℕ) (t : Tree) → AllByRecursion (λ leaf. leaf.0 < n) (leaves t) → AllByRecursion (λ x. IsFalse (is_outside n x)) (postfix t)
postfix-inside n (Leaf b s) h = (not_from_true (nat_lt b n) (lt-ltb b n h.0), tt)
postfix-inside n (Beside l r) h =
    each-append _ (postfix l ++ postfix r) (token.Beside ∷ []) (each-append _ (postfix l) (postfix r) (postfix-inside n l (each-left _ (leaves l) (leaves r) h)) (postfix-inside n r (each-right _ (leaves l) (leaves r) h))) (refl, tt)
postfix-inside n (Above l r) h =
    each-append _ (postfix l ++ postfix r) (token.Above ∷ []) (each-append _ (postfix l) (postfix r) (postfix-inside n l (each-left _ (leaves l) (leaves r) h)) (postfix-inside n r (each-right _ (leaves l) (leaves r) h))) (refl, tt)

-- the postfix of a skewed plan is normal
pub postfix-normal : (blocks : ℕ) (t : Tree) → HasEachOnce blocks t → IsSkewed t → IsNormal blocks (postfix t)
postfix-normal blocks t once skewed = record {
  each_once = λ b h. count_by-postfix b t ∙ once.each_once b h;
  no_other = All-from_recursion _ (postfix t) (postfix-inside blocks t (recursion_from_All (λ leaf. leaf.0 < blocks) (leaves t) once.no_other));
  ballot = Reads-ballot (postfix t) 1 (Reads-postfix t 0);
  whole = omega (arith, length-postfix t, length-leaves_once blocks t once);
  alternates = alternates (token.Block 0) (postfix t) (Alternating-postfix (token.Block 0) t skewed);
}

-- tokens of which no two neighbours are the same operator alternate
Alternating-from : (p : Token) (ts : List Token) → ((k : ℕ) (d : Token) → k + 1 < length (p ∷ ts) → same_operator (get_or (p ∷ ts) k d) (get_or (p ∷ ts) (k + 1) d) ≡ false) → Alternating p ts
Alternating-from p [] a = tt
Alternating-from p (x ∷ ts) a = (
  a 0 p (omega arith),
  Alternating-from x ts (λ k d h.
      let e : suc (k + 1) ≡ suc k + 1 = omega arith in
      ap (λ n. same_operator (get_or (x ∷ ts) k d) (get_or (p ∷ x ∷ ts) n d)) e ∙ a (suc k) d (omega arith)),
)

-- tokens that alternate by themselves alternate behind a block
pub first-free : (ts : List Token) → Alternates ts → Alternating (token.Block 0) ts
first-free [] a = tt
first-free (x ∷ ts) a = (refl, Alternating-from x ts (λ k d h. a k d h))

-- a list that is taken one further begins with the first token and goes on as the rest
take-next : (x : Token) (ts : List Token) (k : ℕ) → take (k + 1) (x ∷ ts) ≡ x ∷ take k ts
take-next x ts k =
    let e : k + 1 ≡ suc k = omega arith in
    ap (λ n. take n (x ∷ ts)) e

-- more operands than operators in each prefix, with h of them before
abbrev Ahead : ℕ → List Token → Type 0
Ahead h ts = (k : ℕ) → 1 ≤ k → k ≤ length ts → operators (take k ts) < operands (take k ts) + h

-- what keeps operands ahead keeps them ahead behind its first token, counted on from it
ahead-next : (x : Token) (ts : List Token) (h i : ℕ) → cond (not (is_operand x)) 1 0 + i ≡ cond (is_operand x) 1 0 + h → Ahead h (x ∷ ts) → Ahead i ts
ahead-next x ts h i e a k low high =
    omega (
      arith,
      e,
      a (k + 1) (omega arith) (omega arith),
      ap operators (take-next x ts k),
      ap operands (take-next x ts k),
      sum_by-cons (λ t. cond (not (is_operand t)) 1 0) x (take k ts),
      sum_by-cons (λ t. cond (is_operand t) 1 0) x (take k ts),
    )

-- where operands stay ahead, the first token leaves them ahead
ahead-first : (x : Token) (ts : List Token) (h : ℕ) → Ahead h (x ∷ ts) → cond (not (is_operand x)) 1 0 < cond (is_operand x) 1 0 + h
ahead-first x ts h a = omega (arith, a 1 (omega arith) (omega arith), sum_by-cons (λ t. cond (not (is_operand t)) 1 0) x (take 0 ts), sum_by-cons (λ t. cond (is_operand t) 1 0) x (take 0 ts))

-- where operands stay ahead and the counts meet, the tokens are read to so many plans
pub reads-from : (ts : List Token) (h g : ℕ) → Ahead h ts → operands ts + h ≡ operators ts + g → Reads h ts g
reads-from [] h g a e = omega (arith, e)
reads-from (token.Beside ∷ ts) h g a e =
    let two : 2 ≤ h = omega (arith, ahead-first token.Beside ts h a) in (
      two,
      reads-from ts (h - 1) g (ahead-next token.Beside ts h (h - 1) (omega arith) a)
          (omega (arith, e, sum_by-cons (λ t. cond (not (is_operand t)) 1 0) token.Beside ts, sum_by-cons (λ t. cond (is_operand t) 1 0) token.Beside ts)),
    )
reads-from (token.Above ∷ ts) h g a e =
    let two : 2 ≤ h = omega (arith, ahead-first token.Above ts h a) in (
      two,
      reads-from ts (h - 1) g (ahead-next token.Above ts h (h - 1) (omega arith) a)
          (omega (arith, e, sum_by-cons (λ t. cond (not (is_operand t)) 1 0) token.Above ts, sum_by-cons (λ t. cond (is_operand t) 1 0) token.Above ts)),
    )
reads-from (token.Block b ∷ ts) h g a e =
    reads-from ts (h + 1) g (ahead-next (token.Block b) ts h (h + 1) (omega arith) a)
    (omega (arith, e, sum_by-cons (λ t. cond (not (is_operand t)) 1 0) (token.Block b) ts, sum_by-cons (λ t. cond (is_operand t) 1 0) (token.Block b) ts))

-- the numbers of the blocks
abbrev pub numbers : List Token → List ℕ
numbers [] = []
numbers (token.Beside ∷ ts) = numbers ts
numbers (token.Above ∷ ts) = numbers ts
numbers (token.Block b ∷ ts) = b ∷ numbers ts

-- there are as many numbers of blocks as operands
pub length-numbers : (ts : List Token) → length (numbers ts) ≡ operands ts
length-numbers [] = refl
length-numbers (token.Beside ∷ ts) = omega (arith, length-numbers ts, sum_by-cons (λ t. cond (is_operand t) 1 0) token.Beside ts)
length-numbers (token.Above ∷ ts) = omega (arith, length-numbers ts, sum_by-cons (λ t. cond (is_operand t) 1 0) token.Above ts)
length-numbers (token.Block b ∷ ts) = omega (arith, length-numbers ts, sum_by-cons (λ t. cond (is_operand t) 1 0) (token.Block b) ts)

-- a block's number stands as often among the numbers as the block among the tokens
pub count-numbers : (b : ℕ) (ts : List Token) → count_by (λ n. n == b) (numbers ts) ≡ count_by (is_block b) ts
count-numbers b [] = refl
count-numbers b (token.Beside ∷ ts) = omega (arith, count-numbers b ts, sum_by-cons (λ t. cond (is_block b t) 1 0) token.Beside ts)
count-numbers b (token.Above ∷ ts) = omega (arith, count-numbers b ts, sum_by-cons (λ t. cond (is_block b t) 1 0) token.Above ts)
count-numbers b (token.Block c ∷ ts) = omega (arith, count-numbers b ts, sum_by-cons (λ t. cond (is_block b t) 1 0) (token.Block c) ts, sum_by-cons (λ n. cond (n == b) 1 0) c (numbers ts))

-- a number that is not outside n blocks is below n
pub inside-number : (n b : ℕ) → not (nat_lt b n) ≡ false → b < n
inside-number n b h = ltb-true b n (true_from_ne_false (nat_lt b n) (λ e. true≢false (sym (ap not e) ∙ h)))

-- where no token is outside n blocks, all numbers of blocks are below n
pub numbers-below : (n : ℕ) (ts : List Token) → AllByRecursion (λ t. IsFalse (is_outside n t)) ts → AllByRecursion (λ b. b < n) (numbers ts)
numbers-below n [] h = tt
numbers-below n (token.Beside ∷ ts) h = numbers-below n ts h.1
numbers-below n (token.Above ∷ ts) h = numbers-below n ts h.1
numbers-below n (token.Block b ∷ ts) h = (inside-number n b h.0, numbers-below n ts h.1)

-- operands and operators together are all tokens
pub both-kinds : (ts : List Token) → operands ts + operators ts ≡ length ts
both-kinds [] = refl
both-kinds (token.Beside ∷ ts) = omega (arith, both-kinds ts, sum_by-cons (λ t. cond (not (is_operand t)) 1 0) token.Beside ts, sum_by-cons (λ t. cond (is_operand t) 1 0) token.Beside ts)
both-kinds (token.Above ∷ ts) = omega (arith, both-kinds ts, sum_by-cons (λ t. cond (not (is_operand t)) 1 0) token.Above ts, sum_by-cons (λ t. cond (is_operand t) 1 0) token.Above ts)
both-kinds (token.Block b ∷ ts) = omega (arith, both-kinds ts, sum_by-cons (λ t. cond (not (is_operand t)) 1 0) (token.Block b) ts, sum_by-cons (λ t. cond (is_operand t) 1 0) (token.Block b) ts)

-- normal tokens read to one item
pub normal-reads : (blocks : ℕ) (ts : List Token) → IsNormal blocks ts → Reads 0 ts 1
normal-reads blocks ts normal =
    let n = length-each_once (λ (b : ℕ). b) blocks (numbers ts) (λ b h. count-numbers b ts ∙ normal.each_once b h)
    (numbers-below blocks ts (recursion_from_All (λ t. IsFalse (is_outside blocks t)) ts normal.no_other)) in
    reads-from ts 0 1 (λ k low high. omega (arith, normal.ballot k low high))
    (omega (arith, n, length-numbers ts, both-kinds ts, normal.whole))

-- a normal expression stands for a skewed plan
pub normal-spelled : (blocks : ℕ) (expr : Expr) → IsNormal blocks expr.tokens → (tree : Tree) × IsSkewedTreeOf expr tree
normal-spelled blocks expr normal = spelled-tree expr (first-free expr.tokens normal.alternates) (normal-reads blocks expr.tokens normal)
