-- The tokens of a complete subproblem are normal.
use Rattle.std.proofs.Common.{◌≡◌, ℕ, ◌+◌, ◌-◌, ◌*◌, ◌<◌, ◌≤◌, List, [], ◌∷◌, ◌++◌, length, length-set, arith, refl, ap, sym, subst, ◌∙◌, ◌==◌, Bool, true, false, cond, not, inl, inr}
use Rattle.sf_node.proofs.Common.{count_by, IsFalse, nat_le, nat_lt, AllByRecursion, and_parts, not_from_true, lt-ltb, leb-true, eqb-true, ne_eqb, eq-eqb, cases_eq, true≢false, length-map, All-from_recursion, sum_by-cons, sum_by-append, Design, block_count, each-append, Token, is_operand, is_block, is_outside, same_operator, last_or, ends_in, operands, operators, IsNormal, Step, Beside, Above, Block, Left, Right, Parts, root, is_complete, may_join, is_unused, after, CanStep, CanWalk, walk, IsSubproblem, each-once_by_length, Reads, Reads-append, Reads-counts, Alternating, Alternating-append}
use Rattle.sf_polish.specs.declared.expr.Token.TheVariants as token
use Rattle.sf_polish.proofs.Normality.{Reads-first, Reads-ballot, alternates, numbers, length-numbers, count-numbers, numbers-below, both-kinds}

-- what holds of the tokens of each subproblem
pub record IsBegun (blocks : ℕ) (tokens : List Token) : Type 0 where
  pub count : ℕ
  pub reads : Reads 0 tokens count
  pub alternates : Alternating (token.Block 0) tokens
  pub once : (b : ℕ) → count_by (is_block b) tokens ≤ 1
  pub below : AllByRecursion (λ t. IsFalse (is_outside blocks t)) tokens

-- what is found not to hold is false
not-true : (b : Bool) → not b ≡ true → b ≡ false
not-true true h = absurd (true≢false (sym h))
not-true false h = refl

-- an operator that may come keeps this
join-begun : (blocks : ℕ) (tokens : List Token) (t : Token) → is_operand t ≡ false → ((h g : ℕ) → 2 ≤ h → g + 1 ≡ h → Reads h (t ∷ []) g) → ((b : ℕ) → is_block b t ≡ false) → is_outside blocks t ≡ false → may_join t tokens ≡ true → IsBegun blocks tokens → IsBegun blocks (tokens ++ t ∷ [])
join-begun blocks tokens t o reads no_block inside can i =
    let may = and_parts (nat_le (operators tokens + 2) (operands tokens)) (not (ends_in t tokens)) can in
    let two = leb-true (operators tokens + 2) (operands tokens) may.0 in
    let counts = Reads-counts tokens 0 i.count i.reads in
    record {
      count = i.count - 1;
      reads = Reads-append tokens (t ∷ []) 0 i.count (i.count - 1) i.reads (reads i.count (i.count - 1) (omega (arith, two, counts)) (omega (arith, two, counts)));
      alternates = Alternating-append (token.Block 0) tokens (t ∷ []) i.alternates (not-true (ends_in t tokens) may.1, tt);
      once = λ b. (let z : ◌≡◌ {A = ℕ} (cond (is_block b t) 1 0) 0 = ap (λ (v : Bool). cond {A = ℕ} v 1 0) (no_block b) in
          omega (arith, i.once b, z, sum_by-append (λ x. cond (is_block b x) 1 0) tokens (t ∷ []), sum_by-cons (λ x. cond (is_block b x) 1 0) t []));
      below = each-append (λ v. IsFalse (is_outside blocks v)) tokens (t ∷ []) i.below (inside, tt);
    }

-- a block is no operator again
block_after : (p : Token) (b : ℕ) → same_operator p (token.Block b) ≡ false
block_after token.Beside b = refl
block_after token.Above b = refl
block_after (token.Block c) b = refl

-- a block that isn't there yet keeps this
block-begun : (blocks : ℕ) (tokens : List Token) (b : ℕ) → b < blocks → is_unused b tokens ≡ true → IsBegun blocks tokens → IsBegun blocks (tokens ++ token.Block b ∷ [])
block-begun blocks tokens b inside free i = record {
  count = i.count + 1;
  reads = Reads-append tokens (token.Block b ∷ []) 0 i.count (i.count + 1) i.reads refl;
  alternates = Alternating-append (token.Block 0) tokens (token.Block b ∷ []) i.alternates (block_after (last_or (token.Block 0) tokens) b, tt);
  once = λ c. elim (cases_eq b c) [
    | inl e ↦ (let zero_before : count_by (is_block c) tokens ≡ 0 = subst (λ v. count_by (is_block v) tokens ≡ 0) e (eqb-true (count_by (is_block b) tokens) 0 free) in
        let one : ◌≡◌ {A = ℕ} (cond (b == c) 1 0) 1 = ap (λ (v : Bool). cond {A = ℕ} v 1 0) (eq-eqb b c e) in
        omega (arith, one, zero_before, sum_by-append (λ x. cond (is_block c x) 1 0) tokens (token.Block b ∷ []), sum_by-cons (λ x. cond (is_block c x) 1 0) (token.Block b) []))
    | inr ne ↦ (let none : ◌≡◌ {A = ℕ} (cond (b == c) 1 0) 0 = ap (λ (v : Bool). cond {A = ℕ} v 1 0) (ne_eqb b c ne) in
        omega (arith, none, i.once c, sum_by-append (λ x. cond (is_block c x) 1 0) tokens (token.Block b ∷ []), sum_by-cons (λ x. cond (is_block c x) 1 0) (token.Block b) []))
  ];
  below = each-append (λ v. IsFalse (is_outside blocks v)) tokens (token.Block b ∷ []) i.below (not_from_true (nat_lt b blocks) (lt-ltb b blocks inside), tt);
}

-- each step keeps this, and the number of spans
step-begun : (blocks : ℕ) (node : Parts) (s : Step) → length node.spans ≡ blocks → CanStep node s → IsBegun blocks node.tokens → IsBegun blocks (after node s).tokens × (length (after node s).spans ≡ blocks)
step-begun blocks node Beside n can i = (join-begun blocks node.tokens token.Beside refl (λ h g k e. (k, omega (arith, k, e))) (λ b. refl) refl can i, n)
step-begun blocks node Above n can i = (join-begun blocks node.tokens token.Above refl (λ h g k e. (k, omega (arith, k, e))) (λ b. refl) refl can i, n)
step-begun blocks node (Block b) n can i = (block-begun blocks node.tokens b (omega (arith, can.0, n)) can.1 i, n)
step-begun blocks node (Left b) n can i = (i, length-set node.spans b _ ∙ n)
step-begun blocks node (Right b) n can i = (i, length-set node.spans b _ ∙ n)

-- all steps keep this
walk-begun : (blocks : ℕ) (ss : List Step) (node : Parts) → length node.spans ≡ blocks → CanWalk node ss → IsBegun blocks node.tokens → IsBegun blocks (walk node ss).tokens
walk-begun blocks [] node n can i = i
walk-begun blocks (s ∷ ss) node n can i =
    let k = step-begun blocks node s n can.0 i in walk-begun blocks ss (after node s) k.1 can.1 k.0

-- the tokens of a subproblem
pub subproblem-begun : (design : Design) (node : Parts) → IsSubproblem design node → IsBegun (block_count design) node.tokens
subproblem-begun design node sub =
    subst (λ n. IsBegun (block_count design) n.tokens) (sym sub.is)
    (walk-begun (block_count design) node.steps (root design) (length-map design.blocks (λ block. (0, length block.shapes))) sub.reached
    record { count = 0; reads = refl; alternates = tt; once = λ b. omega arith; below = tt })

-- the tokens of a complete subproblem are a normal expression of the design's blocks
pub complete-normal : (design : Design) (node : Parts) → IsSubproblem design node → length node.spans ≡ block_count design → is_complete node ≡ true → IsNormal (block_count design) node.tokens
complete-normal design node sub spans complete =
    let n = block_count design in
    let ts = node.tokens in
    let i = subproblem-begun design node sub in
    let full : length ts + 1 ≡ 2 * n = eqb-true (length ts + 1) (2 * length node.spans) complete ∙ ap (λ m. 2 * m) spans in
    let counts = Reads-counts ts 0 i.count i.reads in
    let both = both-kinds ts in
    let some : 1 ≤ n = design.limits.some_block in
    let first = Reads-first ts i.count (omega (arith, full, some)) i.reads in
    let few : (b : ℕ) → count_by (λ m. m == b) (numbers ts) ≤ 1 = λ b. omega (arith, count-numbers b ts, i.once b) in
    let below = numbers-below n ts i.below in
    let length_is = length-numbers ts in
    record {
      each_once = λ b lt. sym (count-numbers b ts) ∙ each-once_by_length (λ (m : ℕ). m) n (numbers ts) few below (omega (arith, counts, both, full, first, length_is)) b lt;
      no_other = All-from_recursion (λ t. IsFalse (is_outside n t)) ts i.below;
      ballot = Reads-ballot ts i.count i.reads;
      whole = full;
      alternates = alternates (token.Block 0) ts i.alternates;
    }
