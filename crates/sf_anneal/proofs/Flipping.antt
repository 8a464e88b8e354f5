-- The operators of a run are turned.
use Rattle.std.proofs.Common.{◌≡◌, ℕ, suc, ◌+◌, ◌≤◌, List, [], ◌∷◌, ◌++◌, length, take, drop, append-nil, arith, refl, ap, sym, ◌∙◌, Bool, true, false, cond, not, ◌==◌, if◌then◌else◌}
use Rattle.sf_anneal.proofs.Common.{AllByRecursion, All-from_recursion, recursion_from_All, IsFalse, count_by, map, sum_by-cons, Token, is_operand, is_block, is_outside, same_operator, IsNormal, Alternating, normal-reads, first-free, begun_by, runs_from, runs, flipped_from, flipped, turned, drop_all, take_all}
use Rattle.sf_polish.specs.declared.expr.Token.TheVariants as token
use Rattle.sf_anneal.proofs.Patterns.{normal-like, Reads-like}

-- a token that is turned or not
abbrev pub turned_if : Bool → Token → Token
turned_if c t = if c then turned t else t

-- it is an operand where it was, the same block, and outside where it was
turned-operand : (c : Bool) (t : Token) → is_operand (turned_if c t) ≡ is_operand t
turned-operand false t = refl
turned-operand true token.Beside = refl
turned-operand true token.Above = refl
turned-operand true (token.Block b) = refl

turned-block : (c : Bool) (t : Token) (b : ℕ) → is_block b (turned_if c t) ≡ is_block b t
turned-block false t b = refl
turned-block true token.Beside b = refl
turned-block true token.Above b = refl
turned-block true (token.Block d) b = refl

turned-outside : (c : Bool) (t : Token) (n : ℕ) → is_outside n (turned_if c t) ≡ is_outside n t
turned-outside false t n = refl
turned-outside true token.Beside n = refl
turned-outside true token.Above n = refl
turned-outside true (token.Block d) n = refl

-- turned twice it is as it was
turned-twice : (c : Bool) (t : Token) → turned_if c (turned_if c t) ≡ t
turned-twice false t = refl
turned-twice true token.Beside = refl
turned-twice true token.Above = refl
turned-twice true (token.Block d) = refl

-- the count of runs looks at no more than what is an operand
begun-like : (c : Bool) (t : Token) (inside : Bool) (begun : ℕ) → begun_by (turned_if c t) inside begun ≡ begun_by t inside begun
begun-like false t inside begun = refl
begun-like true token.Beside true begun = refl
begun-like true token.Beside false begun = refl
begun-like true token.Above true begun = refl
begun-like true token.Above false begun = refl
begun-like true (token.Block d) inside begun = refl

module _ (k : ℕ) where
  -- whether the token is turned
  abbrev pub turns : Token → Bool → ℕ → Bool
  turns t inside begun = begun_by t inside begun == k + 1

  pub flipped-pattern : (inside : Bool) (begun : ℕ) (ts : List Token) → map is_operand (flipped_from k inside begun ts) ≡ map is_operand ts
  flipped-pattern inside begun [] = refl
  flipped-pattern inside begun (t ∷ ts) =
      ap (λ z. z ∷ map is_operand (flipped_from k (not (is_operand t)) (begun_by t inside begun) ts)) (turned-operand (turns t inside begun) t)
      ∙ ap (λ z. is_operand t ∷ z) (flipped-pattern (not (is_operand t)) (begun_by t inside begun) ts)

  flipped-length : (inside : Bool) (begun : ℕ) (ts : List Token) → length (flipped_from k inside begun ts) ≡ length ts
  flipped-length inside begun [] = refl
  flipped-length inside begun (t ∷ ts) = ap suc (flipped-length (not (is_operand t)) (begun_by t inside begun) ts)

  flipped-count : (b : ℕ) (inside : Bool) (begun : ℕ) (ts : List Token) → count_by (is_block b) (flipped_from k inside begun ts) ≡ count_by (is_block b) ts
  flipped-count b inside begun [] = refl
  flipped-count b inside begun (t ∷ ts) =
      let more = flipped_from k (not (is_operand t)) (begun_by t inside begun) ts in
      omega (
        arith,
        sum_by-cons (λ x. cond (is_block b x) 1 0) (turned_if (turns t inside begun) t) more,
        sum_by-cons (λ x. cond (is_block b x) 1 0) t ts,
        ap {B = ℕ} (λ z. cond z 1 0) (turned-block (turns t inside begun) t b),
        flipped-count b (not (is_operand t)) (begun_by t inside begun) ts,
      )

  flipped-inside : (n : ℕ) (inside : Bool) (begun : ℕ) (ts : List Token) → AllByRecursion (λ t. IsFalse (is_outside n t)) ts → AllByRecursion (λ t. IsFalse (is_outside n t)) (flipped_from k inside begun ts)
  flipped-inside n inside begun [] h = tt
  flipped-inside n inside begun (t ∷ ts) h = (turned-outside (turns t inside begun) t n ∙ h.0, flipped-inside n (not (is_operand t)) (begun_by t inside begun) ts h.1)

  -- two operators that differ still do where both are turned
  turned-apart : (c : Bool) (p t : Token) → same_operator p t ≡ false → same_operator (turned_if c p) (turned_if c t) ≡ false
  turned-apart false p t h = h
  turned-apart true token.Beside token.Beside h = absurd cc
  turned-apart true token.Beside token.Above h = refl
  turned-apart true token.Beside (token.Block b) h = refl
  turned-apart true token.Above token.Beside h = refl
  turned-apart true token.Above token.Above h = absurd cc
  turned-apart true token.Above (token.Block b) h = refl
  turned-apart true (token.Block b) token.Beside h = refl
  turned-apart true (token.Block b) token.Above h = refl
  turned-apart true (token.Block b) (token.Block c) h = refl

  -- no block is an operator
  block-before : (q t : Token) → is_operand q ≡ true → same_operator q t ≡ false
  block-before token.Beside t h = absurd cc
  block-before token.Above t h = absurd cc
  block-before (token.Block b) t h = refl

  -- q stands for p before the tokens: inside a run turned or not, otherwise an operand
  abbrev StandsFor : Bool → ℕ → Token → Token → Type 0
  StandsFor true begun p q = q ≡ turned_if (begun == k + 1) p
  StandsFor false begun p q = is_operand q ≡ true

  pub flipped-alternates : (p q : Token) (inside : Bool) (begun : ℕ) (ts : List Token) → StandsFor inside begun p q → Alternating p ts → Alternating q (flipped_from k inside begun ts)
  flipped-alternates p q inside begun [] s a = tt
  flipped-alternates p q true begun (token.Beside ∷ ts) s a =
      let c = begun == k + 1 in
      (ap (λ z. same_operator z (turned_if c token.Beside)) s ∙ turned-apart c p token.Beside a.0, flipped-alternates token.Beside (turned_if c token.Beside) true begun ts refl a.1)
  flipped-alternates p q true begun (token.Above ∷ ts) s a =
      let c = begun == k + 1 in
      (ap (λ z. same_operator z (turned_if c token.Above)) s ∙ turned-apart c p token.Above a.0, flipped-alternates token.Above (turned_if c token.Above) true begun ts refl a.1)
  flipped-alternates p q true begun (token.Block b ∷ ts) s a =
      let c = begun == k + 1 in
      (ap (λ z. same_operator z (turned_if c (token.Block b))) s ∙ turned-apart c p (token.Block b) a.0, flipped-alternates (token.Block b) (turned_if c (token.Block b)) false begun ts (turned-operand c (token.Block b)) a.1)
  flipped-alternates p q false begun (token.Beside ∷ ts) s a =
      let c = begun + 1 == k + 1 in
      (block-before q (turned_if c token.Beside) s, flipped-alternates token.Beside (turned_if c token.Beside) true (begun + 1) ts refl a.1)
  flipped-alternates p q false begun (token.Above ∷ ts) s a =
      let c = begun + 1 == k + 1 in
      (block-before q (turned_if c token.Above) s, flipped-alternates token.Above (turned_if c token.Above) true (begun + 1) ts refl a.1)
  flipped-alternates p q false begun (token.Block b ∷ ts) s a =
      let c = begun == k + 1 in
      (block-before q (turned_if c (token.Block b)) s, flipped-alternates (token.Block b) (turned_if c (token.Block b)) false begun ts (turned-operand c (token.Block b)) a.1)

  flipped-again : (inside : Bool) (begun : ℕ) (ts : List Token) → flipped_from k inside begun (flipped_from k inside begun ts) ≡ ts
  flipped-again inside begun [] = refl
  flipped-again inside begun (t ∷ ts) =
      let c = turns t inside begun in
      let u = turned_if c t in
      let more = flipped_from k (not (is_operand t)) (begun_by t inside begun) ts in
      let count : begun_by u inside begun ≡ begun_by t inside begun = begun-like c t inside begun in
      let kind : not (is_operand u) ≡ not (is_operand t) = ap not (turned-operand c t) in
      ap (λ n. turned_if (n == k + 1) u ∷ flipped_from k (not (is_operand u)) n more) count
      ∙ ap (λ z. turned_if c u ∷ flipped_from k z (begun_by t inside begun) more) kind
      ∙ ap (λ z. z ∷ flipped_from k (not (is_operand t)) (begun_by t inside begun) more) (turned-twice c t)
      ∙ ap (λ z. t ∷ z) (flipped-again (not (is_operand t)) (begun_by t inside begun) ts)

  flipped-runs : (inside : Bool) (begun : ℕ) (ts : List Token) → runs_from inside begun (flipped_from k inside begun ts) ≡ runs_from inside begun ts
  flipped-runs inside begun [] = refl
  flipped-runs inside begun (t ∷ ts) =
      let c = turns t inside begun in
      let more = flipped_from k (not (is_operand t)) (begun_by t inside begun) ts in
      ap (λ n. runs_from (not (is_operand (turned_if c t))) n more) (begun-like c t inside begun)
      ∙ ap (λ z. runs_from z (begun_by t inside begun) more) (ap not (turned-operand c t))
      ∙ flipped-runs (not (is_operand t)) (begun_by t inside begun) ts

-- normal tokens stay normal
pub flipped-normal : (blocks : ℕ) (ts : List Token) (k : ℕ) → IsNormal blocks ts → IsNormal blocks (flipped ts k)
flipped-normal blocks ts k normal =
    normal-like blocks ts (flipped ts k) normal
    (λ b. flipped-count k b false 0 ts)
    (All-from_recursion (λ t. IsFalse (is_outside blocks t)) (flipped ts k) (flipped-inside k blocks false 0 ts (recursion_from_All (λ t. IsFalse (is_outside blocks t)) ts normal.no_other)))
    (flipped-length k false 0 ts)
    (Reads-like ts (flipped ts k) 0 1 (flipped-pattern k false 0 ts) (normal-reads blocks ts normal))
    (flipped-alternates k (token.Block 0) (token.Block 0) false 0 ts refl (first-free ts normal.alternates))

-- made again the turn restores the tokens
pub flipped-twice : (ts : List Token) (k : ℕ) → flipped (flipped ts k) k ≡ ts
flipped-twice ts k = flipped-again k false 0 ts

-- as many tokens, and as many runs as before
pub length-flipped : (ts : List Token) (k : ℕ) → length (flipped ts k) ≡ length ts
length-flipped ts k = flipped-length k false 0 ts

pub runs-flipped : (ts : List Token) (k : ℕ) → runs (flipped ts k) ≡ runs ts
runs-flipped ts k = flipped-runs k false 0 ts

-- there are no more runs than tokens
runs-from-few : (inside : Bool) (begun : ℕ) (ts : List Token) → runs_from inside begun ts ≤ begun + length ts
runs-from-few inside begun [] = omega arith
runs-from-few inside begun (t ∷ ts) = omega (arith, runs-from-few (not (is_operand t)) (begun_by t inside begun) ts, one-more t inside begun)
  where
    one-more : (t : Token) (inside : Bool) (begun : ℕ) → begun_by t inside begun ≤ begun + 1
    one-more token.Beside true begun = omega arith
    one-more token.Beside false begun = omega arith
    one-more token.Above true begun = omega arith
    one-more token.Above false begun = omega arith
    one-more (token.Block b) inside begun = omega arith

pub runs-few : (ts : List Token) → runs ts ≤ length ts
runs-few ts = omega (arith, runs-from-few false 0 ts)

-- what the loop has made once it has passed all tokens
pub flip-ends : (xs zs : List Token) (i k : ℕ) (inside : Bool) (begun : ℕ) → length xs ≤ i → take i xs ++ flipped_from k inside begun (drop i xs) ≡ zs → xs ≡ zs
flip-ends xs zs i k inside begun h e =
    sym (append-nil xs)
    ∙ ap (λ z. z ++ []) (sym (take_all i xs h))
    ∙ ap (λ z. take i xs ++ flipped_from k inside begun z) (sym (drop_all i xs h))
    ∙ e
