-- Tokens that are read one after another without a fault are the front of normal tokens, and at the end they are normal.
use Rattle.std.proofs.Common.{◌≡◌, ℕ, zero, suc, ◌+◌, ◌-◌, ◌<◌, ◌≤◌, Bool, true, false, cond, not, List, [], ◌∷◌, ◌++◌, Option, Some, None, Result, Ok, Err, append_assoc, append-nil, arith, refl, ap, sym, subst, ◌∙◌, inl, inr, ◌==◌, ◌||◌}
use Rattle.sf_expr_text.proofs.Common.{count_by, nat_le, map, AllByRecursion, list_all, range_with_len, eqb_tells, leb_tells, All-from_recursion, recursion_from_All, sum_by-cons, sum_by-append, cases_lt, and_parts, length-each_once, each-append, each-right, LineWord, Token, ExprFault, NotBallot, NotNormal, RepeatedBlock, MissingBlock, is_block, is_outside, same_operator, last_or, ends_in, operands, operators, IsNormal, is_named, operator_after, token_after, whole_tokens, tokens_from, ◌>>=◌}
use Rattle.sf_polish.specs.declared.expr.Token.TheVariants as token
use Rattle.sf_polish.proofs.Normality.{Reads-ballot, alternates, numbers, length-numbers, count-numbers, numbers-below, inside-number, both-kinds, normal-reads, first-free}
use Rattle.sf_expr_text.proofs.ReadSteps.{tokens-step, tokens-end}
use Rattle.sf_polish.proofs.Stack.{Reads, Reads-append, Reads-split, Reads-counts, Alternating, Alternating-append, Alternating-after}

-- no fault so far
pub record IsFaultless (blocks : ℕ) (ts : List Token) : Type 0 where
  pub times : (b : ℕ) → count_by (is_block b) ts ≤ 1
  pub inside : AllByRecursion (λ t. is_outside blocks t ≡ false) ts
  pub depth : ℕ
  pub reads : Reads 0 ts depth
  pub alternating : Alternating (token.Block 0) ts

-- no tokens are a front
pub front-start : (blocks : ℕ) → IsFaultless blocks []
front-start blocks = record { times = λ b. omega arith; inside = tt; depth = 0; reads = refl; alternating = tt }

-- ---- named and counted

-- a block stands among tokens as often as in the first and in the rest
pub times-cons : (b : ℕ) (t : Token) (ts : List Token) → count_by (is_block b) (t ∷ ts) ≡ cond (is_block b t) 1 0 + count_by (is_block b) ts
times-cons b t ts = sum_by-cons (λ x. cond (is_block b x) 1 0) t ts

-- a block that is not named stands nowhere
pub unnamed : (b : ℕ) (ts : List Token) → is_named b ts ≡ false → count_by (is_block b) ts ≡ 0
unnamed b [] h = refl
unnamed b (t ∷ ts) h = by_test (is_block b t) refl h (unnamed b ts)
  where
    by_test : (x : Bool) → is_block b t ≡ x → (x || is_named b ts) ≡ false → (is_named b ts ≡ false → count_by (is_block b) ts ≡ 0) → count_by (is_block b) (t ∷ ts) ≡ 0
    by_test true e h more = absurd cc
    by_test false e h more = omega (arith, times-cons b t ts, more h, ap {B = ℕ} (λ z. cond z 1 0) e)

-- a block that is named stands at least once
pub is_named-counted : (b : ℕ) (ts : List Token) → is_named b ts ≡ true → 1 ≤ count_by (is_block b) ts
is_named-counted b [] h = absurd cc
is_named-counted b (t ∷ ts) h = by_test (is_block b t) refl h (is_named-counted b ts)
  where
    by_test : (x : Bool) → is_block b t ≡ x → (x || is_named b ts) ≡ true → (is_named b ts ≡ true → 1 ≤ count_by (is_block b) ts) → 1 ≤ count_by (is_block b) (t ∷ ts)
    by_test true e h more = omega (arith, times-cons b t ts, ap {B = ℕ} (λ z. cond z 1 0) e)
    by_test false e h more = omega (arith, times-cons b t ts, more h, ap {B = ℕ} (λ z. cond z 1 0) e)

-- a block that stands nowhere is not named
pub is_named-uncounted : (b : ℕ) (ts : List Token) → count_by (is_block b) ts ≡ 0 → is_named b ts ≡ false
is_named-uncounted b ts h = by_test (is_named b ts) refl
  where
    by_test : (x : Bool) → is_named b ts ≡ x → is_named b ts ≡ false
    by_test true e = absurd (omega (arith, is_named-counted b ts e, h))
    by_test false e = e

-- a block that stands at least once is named
pub counted : (b : ℕ) (ts : List Token) → 1 ≤ count_by (is_block b) ts → is_named b ts ≡ true
counted b ts h = by_test (is_named b ts) refl
  where
    by_test : (x : Bool) → is_named b ts ≡ x → is_named b ts ≡ true
    by_test true e = e
    by_test false e = absurd (omega (arith, unnamed b ts e, h))

-- a block past the last is not counted
pub uncounted-outside : (blocks b : ℕ) (ts : List Token) → blocks ≤ b → AllByRecursion (λ t. is_outside blocks t ≡ false) ts → count_by (is_block b) ts ≡ 0
uncounted-outside blocks b [] h inside = refl
uncounted-outside blocks b (token.Beside ∷ ts) h inside = omega (arith, times-cons b token.Beside ts, uncounted-outside blocks b ts h inside.1)
uncounted-outside blocks b (token.Above ∷ ts) h inside = omega (arith, times-cons b token.Above ts, uncounted-outside blocks b ts h inside.1)
uncounted-outside blocks b (token.Block c ∷ ts) h inside =
    let other : (c == b) ≡ false = elim (eqb_tells c b) [ inl p ↦ absurd (omega (arith, p.1, h, inside-number blocks c inside.0)) | inr p ↦ p.0 ] in
    omega (arith, times-cons b (token.Block c) ts, uncounted-outside blocks b ts h inside.1, ap {B = ℕ} (λ z. cond z 1 0) other)

-- ---- one token more

module _ (blocks : ℕ) (ts : List Token) (front : IsFaultless blocks ts) where
  -- a token at the end adds to a block's count what it is
  front-times : (t : Token) (b : ℕ) → count_by (is_block b) (ts ++ t ∷ []) ≡ count_by (is_block b) ts + count_by (is_block b) (t ∷ [])
  front-times t b = sum_by-append (λ x. cond (is_block b x) 1 0) ts (t ∷ [])

  -- behind a block that was not named no block stands twice
  block_times : (b c : ℕ) → is_named b ts ≡ false → count_by (is_block c) (ts ++ token.Block b ∷ []) ≤ 1
  block_times b c free = elim (eqb_tells b c) [
    | inl p ↦ omega (arith, front-times (token.Block b) c, times-cons c (token.Block b) [], ap {B = ℕ} (λ z. cond z 1 0) p.0, unnamed c ts (ap (λ n. is_named n ts) (sym p.1) ∙ free))
    | inr p ↦ omega (arith, front-times (token.Block b) c, times-cons c (token.Block b) [], ap {B = ℕ} (λ z. cond z 1 0) p.0, front.times c)
  ]

  -- a front goes on with a token that fits behind it
  front-more : (t : Token) (depth : ℕ) → ((c : ℕ) → count_by (is_block c) (ts ++ t ∷ []) ≤ 1) → is_outside blocks t ≡ false → Reads front.depth (t ∷ []) depth → same_operator (last_or (token.Block 0) ts) t ≡ false → IsFaultless blocks (ts ++ t ∷ [])
  front-more t depth times within reads other = record {
    times = times;
    inside = each-append _ ts (t ∷ []) front.inside (within, tt);
    depth = depth;
    reads = Reads-append ts (t ∷ []) 0 front.depth depth front.reads reads;
    alternating = Alternating-append (token.Block 0) ts (t ∷ []) front.alternating (other, tt);
  }

  -- a front goes on with a block that it does not name
  pub front-block : (b : ℕ) → is_named b ts ≡ false → is_outside blocks (token.Block b) ≡ false → IsFaultless blocks (ts ++ token.Block b ∷ [])
  front-block b free within = front-more (token.Block b) (front.depth + 1) (λ c. block_times b c free) within refl (last_free (last_or (token.Block 0) ts) b)
    where
      last_free : (t : Token) (b : ℕ) → same_operator t (token.Block b) ≡ false
      last_free token.Beside b = refl
      last_free token.Above b = refl
      last_free (token.Block c) b = refl

  -- where more than one operand is ahead, two plans wait
  enough : operators ts + 1 < operands ts → 2 ≤ front.depth
  enough h = omega (arith, h, Reads-counts ts 0 front.depth front.reads)

  -- a front with two plans that wait, and that does not end in Beside, goes on with Beside
  pub front-beside : operators ts + 1 < operands ts → ends_in token.Beside ts ≡ false → IsFaultless blocks (ts ++ token.Beside ∷ [])
  front-beside more other = front-more token.Beside (front.depth - 1) (λ c. omega (arith, front-times token.Beside c, times-cons c token.Beside [], front.times c)) refl (enough more, refl) other

  -- a front with two plans that wait, and that does not end in Above, goes on with Above
  pub front-above : operators ts + 1 < operands ts → ends_in token.Above ts ≡ false → IsFaultless blocks (ts ++ token.Above ∷ [])
  front-above more other = front-more token.Above (front.depth - 1) (λ c. omega (arith, front-times token.Above c, times-cons c token.Above [], front.times c)) refl (enough more, refl) other

-- ---- what a word that is taken tells

-- what is known of the token that a word for an operator adds: it is that operator, and a front goes on with it
abbrev after_operator : List Token → ℕ → Token → Token → Type 0
after_operator ts line t u = (u ≡ t) × (operators ts + 1 < operands ts) × (ends_in t ts ≡ false)

-- an operator that is taken is the one of the word, and may stand there
operator-known : (ts : List Token) (line : ℕ) (t u : Token) → operator_after ts line t ≡ Ok u → after_operator ts line t u
operator-known ts line t u h = by_count (nat_le (operands ts) (operators ts + 1)) (ends_in t ts) refl refl h
  where
    by_count : (a b : Bool) → nat_le (operands ts) (operators ts + 1) ≡ a → ends_in t ts ≡ b → cond a (Err (NotBallot line)) (cond b (Err (NotNormal line)) (Ok t)) ≡ Ok u → after_operator ts line t u
    by_count true b e f k = absurd cc
    by_count false true e f k = absurd cc
    by_count false false e f k =
        let same : u ≡ t = cc in
        (same, elim (leb_tells (operands ts) (operators ts + 1)) [ inl p ↦ absurd (let z : true ≡ false = sym p.0 ∙ e in cc) | inr p ↦ p.1 ], f)

-- a token that is taken is the one of the word, and the front goes on with it
pub front-next : (blocks : ℕ) (ts : List Token) (line : ℕ) (t u : Token) → IsFaultless blocks ts → is_outside blocks t ≡ false → token_after ts line (Some t) ≡ Ok u → (u ≡ t) × IsFaultless blocks (ts ++ t ∷ [])
front-next blocks ts line token.Beside u front within h =
    let k = operator-known ts line token.Beside u h in
    (k.0, front-beside blocks ts front k.1 k.2)
front-next blocks ts line token.Above u front within h =
    let k = operator-known ts line token.Above u h in
    (k.0, front-above blocks ts front k.1 k.2)
front-next blocks ts line (token.Block b) u front within h = by_name (is_named b ts) refl h
  where
    by_name : (x : Bool) → is_named b ts ≡ x → cond x (Err (RepeatedBlock line)) (Ok (token.Block b)) ≡ Ok u → (u ≡ token.Block b) × IsFaultless blocks (ts ++ token.Block b ∷ [])
    by_name true e k = absurd cc
    by_name false e k = let same : u ≡ token.Block b = cc in (same, front-block blocks ts front b e within)

-- ---- the end

-- where a test of a range says that all its blocks are named, each is
pub all-named : (ts : List Token) (a n : ℕ) → list_all (λ b. is_named b ts) (range_with_len a n) ≡ true → (b : ℕ) → a ≤ b → b < a + n → is_named b ts ≡ true
all-named ts a zero h b low high = absurd (omega (arith, low, high))
all-named ts a (suc n) h b low high =
    let both = and_parts (is_named a ts) (list_all (λ b. is_named b ts) (range_with_len (a + 1) n)) h in
    elim (cases_lt a b) [
      | inl p ↦ all-named ts (a + 1) n both.1 b (omega (arith, p)) (omega (arith, high))
      | inr p ↦ let same : a ≡ b = omega (arith, low, p) in ap (λ k. is_named k ts) (sym same) ∙ both.0
    ]

-- where each block of a range is named, the test of the range says so
named-all : (ts : List Token) (a n : ℕ) → ((b : ℕ) → a ≤ b → b < a + n → is_named b ts ≡ true) → list_all (λ b. is_named b ts) (range_with_len a n) ≡ true
named-all ts a zero f = refl
named-all ts a (suc n) f = rw (f a (omega arith) (omega arith), named-all ts (a + 1) n (λ b low high. f b (omega (arith, low)) (omega (arith, high)))) refl

-- where each block stands once and no token is outside, there are as many operands as blocks
one-each : (blocks : ℕ) (ts : List Token) → ((b : ℕ) → b < blocks → count_by (is_block b) ts ≡ 1) → AllByRecursion (λ t. is_outside blocks t ≡ false) ts → operands ts ≡ blocks
one-each blocks ts each inside =
    sym (length-numbers ts) ∙ length-each_once (λ (b : ℕ). b) blocks (numbers ts) (λ b h. count-numbers b ts ∙ each b h) (numbers-below blocks ts inside)

-- a front that names all blocks and whose counts meet is normal
pub front-normal : (blocks : ℕ) (ts : List Token) → IsFaultless blocks ts → list_all (λ b. is_named b ts) (range_with_len 0 blocks) ≡ true → operators ts + 1 ≡ operands ts → IsNormal blocks ts
front-normal blocks ts front all balance =
    let each : (b : ℕ) → b < blocks → count_by (is_block b) ts ≡ 1 = λ b h. omega (arith, front.times b, is_named-counted b ts (all-named ts 0 blocks all b (omega arith) (omega (arith, h)))) in
    let count = one-each blocks ts each front.inside in
    record {
      each_once = each;
      no_other = All-from_recursion (λ t. is_outside blocks t ≡ false) ts front.inside;
      ballot = Reads-ballot ts front.depth front.reads;
      whole = omega (arith, count, balance, both-kinds ts);
      alternates = alternates (token.Block 0) ts front.alternating;
    }

-- where a front ends well, its tokens are the expression and are normal
pub front-ends : (blocks last : ℕ) (ts us : List Token) → IsFaultless blocks ts → whole_tokens blocks last ts ≡ Ok us → (us ≡ ts) × IsNormal blocks ts
front-ends blocks last ts us front h = by_tests (list_all (λ b. is_named b ts) (range_with_len 0 blocks)) (operators ts + 1 == operands ts) refl refl h
  where
    by_tests : (a b : Bool) → list_all (λ b. is_named b ts) (range_with_len 0 blocks) ≡ a → (operators ts + 1 == operands ts) ≡ b → cond (not a) (Err (MissingBlock last)) (cond b (Ok ts) (Err (NotBallot last))) ≡ Ok us → (us ≡ ts) × IsNormal blocks ts
    by_tests false b e f k = absurd cc
    by_tests true false e f k = absurd cc
    by_tests true true e f k =
        let same : us ≡ ts = cc in
        (same, front-normal blocks ts front e (elim (eqb_tells (operators ts + 1) (operands ts)) [ inl p ↦ p.1 | inr p ↦ absurd (let z : true ≡ false = sym f ∙ p.0 in cc) ]))

-- ---- whole texts, by what each word spells

-- what each word spells
abbrev pub spelled_by : (List ℕ → Option Token) → List LineWord → List (Option Token)
spelled_by spelled ws = map (λ w. spelled w.text) ws

-- the words behind the earlier tokens spell the others, and all tokens are normal
pub record IsSpelled (blocks : ℕ) (spelled : List ℕ → Option Token) (earlier : List Token) (ws : List LineWord) (us : List Token) : Type 0 where
  pub rest : List Token
  pub whole : us ≡ earlier ++ rest
  pub words : spelled_by spelled ws ≡ map Some rest
  pub normal : IsNormal blocks us

module _ (blocks last : ℕ) (spelled : List ℕ → Option Token) where
  -- a front that ends well is spelled by no further word
  spelled-end : (earlier us : List Token) → IsFaultless blocks earlier → whole_tokens blocks last earlier ≡ Ok us → IsSpelled blocks spelled earlier [] us
  spelled-end earlier us front h =
      let e = front-ends blocks last earlier us front h in
      record { rest = []; whole = e.0 ∙ sym (append-nil earlier); words = refl; normal = subst (IsNormal blocks) (sym e.0) e.1 }

  -- where a word spells a token and the rest is spelled behind it, both are spelled
  spelled-step : (earlier us : List Token) (word : LineWord) (more : List LineWord) (t : Token) → spelled word.text ≡ Some t → IsSpelled blocks spelled (earlier ++ t ∷ []) more us → IsSpelled blocks spelled earlier (word ∷ more) us
  spelled-step earlier us word more t e k =
      let front : map Some (t ∷ k.rest) ≡ Some t ∷ map Some k.rest = refl in
      record { rest = t ∷ k.rest; whole = k.whole ∙ append_assoc earlier (t ∷ []) k.rest; words = cc (e, k.words); normal = k.normal }

  -- a word and those behind it are spelled, whatever the word spells
  by_word : (earlier us : List Token) (word : LineWord) (more : List LineWord) (o : Option Token) (r : Result Token ExprFault) → IsFaultless blocks earlier → ((t : Token) → spelled word.text ≡ Some t → is_outside blocks t ≡ false)
      → ((t : Token) → IsFaultless blocks (earlier ++ t ∷ []) → tokens_from blocks last spelled (earlier ++ t ∷ []) more ≡ Ok us → IsSpelled blocks spelled (earlier ++ t ∷ []) more us)
      → spelled word.text ≡ o → token_after earlier word.line o ≡ r → (r >>= (λ t. tokens_from blocks last spelled (earlier ++ t ∷ []) more)) ≡ Ok us → IsSpelled blocks spelled earlier (word ∷ more) us
  by_word earlier us word more o (Err e) front within next p q h = absurd cc
  by_word earlier us word more None (Ok u) front within next p q h = absurd cc
  by_word earlier us word more (Some t) (Ok u) front within next p q h =
      let k = front-next blocks earlier word.line t u front (within t p) q in
      spelled-step earlier us word more t p (next t k.1 (ap (λ z. tokens_from blocks last spelled (earlier ++ z ∷ []) more) (sym k.0) ∙ h))

  -- words that are read as tokens spell them, and these are normal
  pub tokens-known : (within : (w : List ℕ) (t : Token) → spelled w ≡ Some t → is_outside blocks t ≡ false) (ws : List LineWord) (earlier us : List Token) → IsFaultless blocks earlier → tokens_from blocks last spelled earlier ws ≡ Ok us → IsSpelled blocks spelled earlier ws us
  tokens-known within [] earlier us front h = spelled-end earlier us front (sym (tokens-end blocks last spelled earlier) ∙ h)
  tokens-known within (word ∷ more) earlier us front h =
      by_word earlier us word more (spelled word.text) (token_after earlier word.line (spelled word.text)) front (within word.text) (λ t. tokens-known within more (earlier ++ t ∷ []) us) refl refl (sym (tokens-step blocks last spelled earlier word more) ∙ h)

  -- ---- and back

  module _ (ts : List Token) (normal : IsNormal blocks ts) where
    operator-passes : (earlier rest : List Token) (line : ℕ) (t : Token) → ts ≡ earlier ++ t ∷ rest → operators earlier + 1 < operands earlier → operator_after earlier line t ≡ Ok t
    operator-passes earlier rest line t e more =
        let few : nat_le (operands earlier) (operators earlier + 1) ≡ false = elim (leb_tells (operands earlier) (operators earlier + 1)) [ inl p ↦ absurd (omega (arith, p.1, more)) | inr p ↦ p.0 ] in
        let other : ends_in t earlier ≡ false = (Alternating-after (token.Block 0) earlier (t ∷ rest) (subst (Alternating (token.Block 0)) e (first-free ts normal.alternates))).0 in
        rw (few, other) refl

    depth-before : (earlier rest : List Token) (t : Token) → ts ≡ earlier ++ t ∷ rest → (g : ℕ) × (Reads 0 earlier g × Reads g (t ∷ rest) 1)
    depth-before earlier rest t e = Reads-split earlier (t ∷ rest) 0 1 (subst (λ z. Reads 0 z 1) e (normal-reads blocks ts normal))

    token-passes : (earlier rest : List Token) (line : ℕ) (t : Token) → ts ≡ earlier ++ t ∷ rest → token_after earlier line (Some t) ≡ Ok t
    token-passes earlier rest line token.Beside e =
        let d = depth-before earlier rest token.Beside e in
        operator-passes earlier rest line token.Beside e (omega (arith, Reads-counts earlier 0 d.0 d.1.0, d.1.1.0))
    token-passes earlier rest line token.Above e =
        let d = depth-before earlier rest token.Above e in
        operator-passes earlier rest line token.Above e (omega (arith, Reads-counts earlier 0 d.0 d.1.0, d.1.1.0))
    token-passes earlier rest line (token.Block b) e =
        let inside = recursion_from_All (λ t. is_outside blocks t ≡ false) ts normal.no_other in
        let within = (each-right _ earlier (token.Block b ∷ rest) (subst (AllByRecursion (λ t. is_outside blocks t ≡ false)) e inside)).0 in
        let same : (b == b) ≡ true = elim (eqb_tells b b) [ inl p ↦ p.0 | inr p ↦ absurd (p.1 refl) ] in
        let none : count_by (is_block b) earlier ≡ 0 = omega (
          arith,
          normal.each_once b (inside-number blocks b within),
          ap (count_by (is_block b)) e,
          sum_by-append (λ x. cond (is_block b x) 1 0) earlier (token.Block b ∷ rest),
          times-cons b (token.Block b) rest,
          ap {B = ℕ} (λ z. cond z 1 0) same,
        ) in
        rw (is_named-uncounted b earlier none) refl

    end-passes : whole_tokens blocks last ts ≡ Ok ts
    end-passes =
        let all = named-all ts 0 blocks (λ b low high. counted b ts (omega (arith, normal.each_once b (omega (arith, high))))) in
        let inside = recursion_from_All (λ t. is_outside blocks t ≡ false) ts normal.no_other in
        let count = one-each blocks ts normal.each_once inside in
        let balance : (operators ts + 1 == operands ts) ≡ true = elim (eqb_tells (operators ts + 1) (operands ts)) [ inl p ↦ p.0 | inr p ↦ absurd (p.1 (omega (arith, count, both-kinds ts, normal.whole))) ] in
        rw (all, balance) refl

    -- words that spell a normal expression are read as its tokens
    pub tokens-again : (ws : List LineWord) (earlier rest : List Token) → ts ≡ earlier ++ rest → spelled_by spelled ws ≡ map Some rest → tokens_from blocks last spelled earlier ws ≡ Ok ts
    tokens-again [] earlier [] e h =
        let all : earlier ≡ ts = sym (e ∙ append-nil earlier) in
        tokens-end blocks last spelled earlier ∙ ap (whole_tokens blocks last) all ∙ end-passes
    tokens-again [] earlier (t ∷ rest) e h = absurd cc
    tokens-again (word ∷ more) earlier [] e h = absurd cc
    tokens-again (word ∷ more) earlier (t ∷ rest) e h =
        let first : spelled word.text ≡ Some t = cc in
        let others : spelled_by spelled more ≡ map Some rest = cc in
        tokens-step blocks last spelled earlier word more
        ∙ ap (λ o. token_after earlier word.line o >>= (λ t. tokens_from blocks last spelled (earlier ++ t ∷ []) more)) first
        ∙ ap (λ r. r >>= (λ t. tokens_from blocks last spelled (earlier ++ t ∷ []) more)) (token-passes earlier rest word.line t e)
        ∙ tokens-again more (earlier ++ t ∷ []) rest (e ∙ sym (append_assoc earlier (t ∷ []) rest)) others
