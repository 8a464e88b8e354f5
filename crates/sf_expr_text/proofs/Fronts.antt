-- A front is what a normal expression begins with: with the blocks that are missing and operators behind them it becomes one.
use Rattle.std.proofs.Common.{◌≡◌, ◌≢◌, ℕ, zero, suc, ◌+◌, ◌-◌, ◌*◌, ◌<◌, ◌≤◌, Bool, true, false, not, ◌&&◌, cond, List, [], ◌∷◌, ◌++◌, length, append_assoc, append-nil, arith, refl, ap, sym, subst, ◌∙◌, inl, inr, ◌==◌}
use Rattle.sf_expr_text.proofs.Common.{count_by, list_all, range_with_len, cases_lt, eqb_tells, nat_tests, All-from_recursion, recursion_from_All, sum_by-append, length-at_most_once, each-left, Token, is_block, is_operand, is_outside, same_operator, last_or, ends_in, operands, operators, IsBallot, IsNormal, is_named, take-length, IsFront}
use Rattle.sf_polish.specs.declared.expr.Token.TheVariants as token
use Rattle.sf_polish.proofs.Normality.{Reads-first, Reads-ballot, alternates, first-free, reads-from, numbers, length-numbers, count-numbers, numbers-below, both-kinds, normal-reads}
use Rattle.sf_expr_text.proofs.SoFar.{IsFaultless, front-block, front-beside, front-above, front-normal, all-named, uncounted-outside}
use Rattle.sf_polish.proofs.Stack.{Reads-split, Reads-counts, Alternating-before}

-- tokens without a fault so far are a front
pub faultless-front : (blocks : ℕ) (ts : List Token) → IsFaultless blocks ts → IsFront blocks ts
faultless-front blocks ts front = record {
  once = front.times;
  no_other = All-from_recursion (λ t. is_outside blocks t ≡ false) ts front.inside;
  ballot = Reads-ballot ts front.depth front.reads;
  alternates = alternates (token.Block 0) ts front.alternating;
}

-- where not all blocks of a range are named, one is missing
pub missing : (ts : List Token) (a n : ℕ) → list_all (λ b. is_named b ts) (range_with_len a n) ≡ false → (b : ℕ) × (b < a + n) × (is_named b ts ≡ false)
missing ts a zero h = absurd cc
missing ts a (suc n) h = by_test (is_named a ts) refl h (missing ts (a + 1) n)
  where
    others : Bool
    others = list_all (λ b. is_named b ts) (range_with_len (a + 1) n)

    by_test : (x : Bool) → is_named a ts ≡ x → (x && others) ≡ false → (others ≡ false → (b : ℕ) × (b < a + 1 + n) × (is_named b ts ≡ false)) → (b : ℕ) × (b < a + suc n) × (is_named b ts ≡ false)
    by_test true e k more = let m = more k in (m.0, omega (arith, m.1), m.2)
    by_test false e k more = (a, omega arith, e)

-- ---- what normal tokens begin with

-- normal tokens name no block twice
pub at-most-once : (blocks : ℕ) (ts : List Token) → IsNormal blocks ts → (b : ℕ) → count_by (is_block b) ts ≤ 1
at-most-once blocks ts normal b = elim (cases_lt b blocks) [
  | inl p ↦ omega (arith, normal.each_once b p)
  | inr p ↦ omega (arith, uncounted-outside blocks b ts p (recursion_from_All (λ t. is_outside blocks t ≡ false) ts normal.no_other))
]

-- what normal tokens begin with has no fault so far
normal-front : (blocks : ℕ) (ts rest : List Token) → IsNormal blocks (ts ++ rest) → IsFaultless blocks ts
normal-front blocks ts rest normal =
    let reads = Reads-split ts rest 0 1 (normal-reads blocks (ts ++ rest) normal) in
    record {
      times = λ b. omega (arith, at-most-once blocks (ts ++ rest) normal b, sum_by-append (λ x. cond (is_block b x) 1 0) ts rest);
      inside = each-left (λ t. is_outside blocks t ≡ false) ts rest (recursion_from_All (λ t. is_outside blocks t ≡ false) (ts ++ rest) normal.no_other);
      depth = reads.0;
      reads = reads.1.0;
      alternating = Alternating-before (token.Block 0) ts rest (first-free (ts ++ rest) normal.alternates);
    }

-- what a normal expression begins with is a front
pub begins-front : (blocks : ℕ) (ts rest : List Token) → IsNormal blocks (ts ++ rest) → IsFront blocks ts
begins-front blocks ts rest normal = faultless-front blocks ts (normal-front blocks ts rest normal)

-- ---- how a front becomes a normal expression

-- under the ballot rule there are no more operators than operands
fewer : (ts : List Token) → IsBallot ts → operators ts ≤ operands ts
fewer [] h = omega arith
fewer (t ∷ ts) h = omega (arith, h (length (t ∷ ts)) (omega arith) (omega arith), ap operators (take-length (t ∷ ts)), ap operands (take-length (t ∷ ts)))

-- a front has no fault so far
front-faultless : (blocks : ℕ) (ts : List Token) → IsFront blocks ts → IsFaultless blocks ts
front-faultless blocks ts front = record {
  times = front.once;
  inside = recursion_from_All (λ t. is_outside blocks t ≡ false) ts front.no_other;
  depth = operands ts - operators ts;
  reads = reads-from ts 0 (operands ts - operators ts) (λ k low high. omega (arith, front.ballot k low high)) (omega (arith, fewer ts front.ballot));
  alternating = first-free ts front.alternates;
}

-- tokens that name a block are some
named-some : (b : ℕ) (ts : List Token) → is_named b ts ≡ true → 1 ≤ length ts
named-some b [] h = absurd cc
named-some b (t ∷ ts) h = omega arith

-- what ends in Beside doesn't end in Above
one-end : (t : Token) → same_operator t token.Beside ≡ true → same_operator t token.Above ≡ false
one-end token.Beside h = refl
one-end token.Above h = absurd cc
one-end (token.Block b) h = absurd cc

module _ (blocks : ℕ) (some : 1 ≤ blocks) where
  -- tokens without a fault have no more operands than there are blocks
  operands-most : (ts : List Token) → IsFaultless blocks ts → operands ts ≤ blocks
  operands-most ts front = omega (
    arith,
    length-numbers ts,
    length-at_most_once (λ (n : ℕ). n) blocks (numbers ts) (λ b. omega (arith, count-numbers b ts, front.times b)) (numbers-below blocks ts front.inside),
  )

  -- the tokens and some behind them are normal
  abbrev Begins : List Token → Type 0
  Begins ts = (rest : List Token) × IsNormal blocks (ts ++ rest)

  -- what begins a normal expression with one token more begins it
  begins-next : (ts : List Token) (t : Token) → Begins (ts ++ t ∷ []) → Begins ts
  begins-next ts t b = (t ∷ b.0, subst (IsNormal blocks) (append_assoc ts (t ∷ []) b.0) b.1)

  -- the operands of tokens and one more
  operands-next : (ts : List Token) (t : Token) → operands (ts ++ t ∷ []) ≡ operands ts + operands (t ∷ [])
  operands-next ts t = sum_by-append (λ x. cond (is_operand x) 1 0) ts (t ∷ [])

  -- the operators of tokens and one more
  operators-next : (ts : List Token) (t : Token) → operators (ts ++ t ∷ []) ≡ operators ts + operators (t ∷ [])
  operators-next ts t = sum_by-append (λ x. cond (not (is_operand x)) 1 0) ts (t ∷ [])

  -- with one token more as many more plans wait as it has operands, and as many fewer as it has operators
  depth-next : (ts : List Token) (t : Token) (front : IsFaultless blocks ts) (more : IsFaultless blocks (ts ++ t ∷ [])) → more.depth + operators (t ∷ []) ≡ front.depth + operands (t ∷ [])
  depth-next ts t front more = omega (
    arith,
    Reads-counts ts 0 front.depth front.reads,
    Reads-counts (ts ++ t ∷ []) 0 more.depth more.reads,
    operands-next ts t,
    operators-next ts t,
  )

  -- tokens that lack a block go on with it
  with-block : (k : ℕ) (ts : List Token) (front : IsFaultless blocks ts) → ((us : List Token) (more : IsFaultless blocks us) → 2 * (blocks - operands us) + more.depth ≤ k → Begins us) → 2 * (blocks - operands ts) + front.depth ≤ suc k
      → (b : ℕ) → b < blocks → is_named b ts ≡ false → Begins ts
  with-block k ts front next most b below free =
      let inside : is_outside blocks (token.Block b) ≡ false = grind (arith, nat_tests) in
      let more = front-block blocks ts front b free inside in
      begins-next ts (token.Block b) (next (ts ++ token.Block b ∷ []) more (omega (arith, most, depth-next ts (token.Block b) front more, operands-next ts (token.Block b), operands-most (ts ++ token.Block b ∷ []) more)))

  -- tokens that lack an operator go on with one that they don't end in
  with-operator : (k : ℕ) (ts : List Token) (front : IsFaultless blocks ts) → ((us : List Token) (more : IsFaultless blocks us) → 2 * (blocks - operands us) + more.depth ≤ k → Begins us) → 2 * (blocks - operands ts) + front.depth ≤ suc k
      → operators ts + 1 < operands ts → Begins ts
  with-operator k ts front next most wide = by_last (ends_in token.Beside ts) refl
    where
      two : 2 ≤ front.depth
      two = omega (arith, wide, Reads-counts ts 0 front.depth front.reads)

      by_last : (x : Bool) → ends_in token.Beside ts ≡ x → Begins ts
      by_last true e =
          let more = front-above blocks ts front wide (one-end (last_or (token.Block 0) ts) e) in
          begins-next ts token.Above (next (ts ++ token.Above ∷ []) more (omega (arith, two, most, depth-next ts token.Above front more, operands-next ts token.Above)))
      by_last false e =
          let more = front-beside blocks ts front wide e in
          begins-next ts token.Beside (next (ts ++ token.Beside ∷ []) more (omega (arith, two, most, depth-next ts token.Beside front more, operands-next ts token.Beside)))

  -- a step towards a normal expression, or none where the tokens are one
  begins-step : (k : ℕ) (ts : List Token) (front : IsFaultless blocks ts) → ((us : List Token) (more : IsFaultless blocks us) → 2 * (blocks - operands us) + more.depth ≤ k → Begins us) → 2 * (blocks - operands ts) + front.depth ≤ suc k → Begins ts
  begins-step k ts front next most = by_tests (list_all (λ b. is_named b ts) (range_with_len 0 blocks)) (operators ts + 1 == operands ts) refl refl
    where
      by_tests : (a b : Bool) → list_all (λ b. is_named b ts) (range_with_len 0 blocks) ≡ a → (operators ts + 1 == operands ts) ≡ b → Begins ts
      by_tests false b p q = let m = missing ts 0 blocks p in with-block k ts front next most m.0 (omega (arith, m.1)) m.2
      by_tests true true p q = ([], subst (IsNormal blocks) (sym (append-nil ts)) (front-normal blocks ts front p (elim (eqb_tells (operators ts + 1) (operands ts)) [ inl r ↦ r.1 | inr r ↦ absurd (let z : true ≡ false = sym q ∙ r.0 in cc) ])))
      by_tests true false p q =
          let other : operators ts + 1 ≢ operands ts = elim (eqb_tells (operators ts + 1) (operands ts)) [ inl r ↦ absurd (let z : true ≡ false = sym r.0 ∙ q in cc) | inr r ↦ r.1 ] in
          let named = named-some 0 ts (all-named ts 0 blocks p 0 (omega arith) (omega (arith, some))) in
          let first = Reads-first ts front.depth named front.reads in
          with-operator k ts front next most (elim (cases_lt (operators ts + 1) (operands ts)) [
            | inl r ↦ r
            | inr r ↦ absurd (other (omega (arith, r, first, Reads-counts ts 0 front.depth front.reads)))
          ])

  -- tokens without a fault begin a normal expression, by what is left to do
  begins-by : (k : ℕ) (ts : List Token) (front : IsFaultless blocks ts) → 2 * (blocks - operands ts) + front.depth ≤ k → Begins ts
  begins-by zero ts front most =
      let long : 1 ≤ length ts = omega (arith, some, most, both-kinds ts) in
      absurd (omega (arith, most, Reads-first ts front.depth long front.reads))
  begins-by (suc k) ts front most = begins-step k ts front (λ us more less. begins-by k us more less) most

  -- a front begins a normal expression
  pub front-begins : (ts : List Token) → IsFront blocks ts → (rest : List Token) × IsNormal blocks (ts ++ rest)
  front-begins ts front =
      let faultless = front-faultless blocks ts front in
      begins-by (2 * (blocks - operands ts) + faultless.depth) ts faultless (omega arith)
