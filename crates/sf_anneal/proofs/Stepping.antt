-- An operand and an operator that stand side by side change places.
use Rattle.std.proofs.Common.{◌≡◌, ◌≢◌, ℕ, suc, ◌+◌, ◌-◌, ◌/◌, ◌<◌, ◌≤◌, List, [], ◌∷◌, ◌++◌, length, get_or, set, take, drop, arith, refl, ap, sym, subst, ◌∙◌, Bool, true, false, cond, not, ◌↔◌}
use Rattle.sf_anneal.proofs.Common.{IsFalse, Token, is_operand, is_block, is_outside, same_operator, last_or, operands, operators, IsNormal, Reads, Reads-append, Reads-split, Reads-counts, Alternating, Alternating-append, Alternating-after, Alternating-before, normal-reads, first-free, AreNormal, stepped, MayStep, MayFollow, MayPrecede, take-append-drop, length-take, swap_is, length-swap, swapped_from_swap, sum_by-IsPermutation, All-permutation, length_permutation, IsPermutation-swap, drop-cons}
use Rattle.sf_polish.specs.declared.expr.Token.TheVariants as token
use Rattle.sf_anneal.proofs.Patterns.{normal-like, one-length, Alternating-free, not-block}
use Rattle.sf_anneal.proofs.Swapping.{swap-twice}

-- the tokens before place i, those at i and i + 1, and the others
pub cut-pair : {X : Type 0} (ts : List X) (i : ℕ) (d : X) → i + 1 < length ts → ts ≡ take i ts ++ get_or ts i d ∷ get_or ts (i + 1) d ∷ drop (i + 2) ts
cut-pair ts i d h =
    let e : suc i ≡ i + 1 = omega arith in
    let f : suc (i + 1) ≡ i + 2 = omega arith in
    sym (take-append-drop i ts)
    ∙ ap (λ z. take i ts ++ z) (drop-cons ts i d (omega arith))
    ∙ ap (λ n. take i ts ++ get_or ts i d ∷ drop n ts) e
    ∙ ap (λ z. take i ts ++ get_or ts i d ∷ z) (drop-cons ts (i + 1) d h)
    ∙ ap (λ n. take i ts ++ get_or ts i d ∷ get_or ts (i + 1) d ∷ drop n ts) f

-- the elements behind some others written anew
set-behind : {X : Type 0} (xs : List X) (x y u v : X) (rest : List X) → set (set (xs ++ x ∷ y ∷ rest) (length xs) u) (length xs + 1) v ≡ xs ++ u ∷ v ∷ rest
set-behind [] x y u v rest = refl
set-behind (z ∷ xs) x y u v rest =
    let e : suc (length xs) + 1 ≡ suc (length xs + 1) = omega arith in
    ap (λ n. set (z ∷ set (xs ++ x ∷ y ∷ rest) (length xs) u) n v) e ∙ ap (λ l. z ∷ l) (set-behind xs x y u v rest)

-- tokens i and i + 1 in each other's place
pub stepped-cut : (ts : List Token) (i : ℕ) (d : Token) → i + 1 < length ts → stepped ts i ≡ take i ts ++ get_or ts (i + 1) d ∷ get_or ts i d ∷ drop (i + 2) ts
stepped-cut ts i d h =
    let x = get_or ts i d in
    let y = get_or ts (i + 1) d in
    let n : length (take i ts) ≡ i = omega (arith, length-take i ts) in
    sym (swap_is ts i (i + 1) d (omega arith) h)
    ∙ ap (λ l. set (set l i y) (i + 1) x) (cut-pair ts i d h)
    ∙ ap (λ k. set (set (take i ts ++ x ∷ y ∷ drop (i + 2) ts) k y) (k + 1) x) (sym n)
    ∙ set-behind (take i ts) x y y x (drop (i + 2) ts)

-- the blocks and the length stay, so the ballot rule and the alternation decide
pub stepped-normal : (blocks : ℕ) (ts : List Token) (i : ℕ) → i + 1 < length ts → IsNormal blocks ts → Reads 0 (stepped ts i) 1 → Alternating (token.Block 0) (stepped ts i) → IsNormal blocks (stepped ts i)
stepped-normal blocks ts i h normal reads alt =
    let us = stepped ts i in
    let moved = IsPermutation-swap ts us i (i + 1) (omega arith) h refl in
    normal-like blocks ts us normal
    (λ b. sum_by-IsPermutation (λ t. cond (is_block b t) 1 0) ts us moved)
    (All-permutation (λ t. IsFalse (is_outside blocks t)) ts us moved normal.no_other)
    (length_permutation ts us moved)
    reads
    alt

-- an operator s comes forward over an operand b
module _ (xs rest : List Token) (b : ℕ) where
  forward-reads : (s : Token) → is_operand s ≡ false → Reads 0 (xs ++ token.Block b ∷ s ∷ rest) 1 → operators xs + 2 ≤ operands xs → Reads 0 (xs ++ s ∷ token.Block b ∷ rest) 1
  forward-reads s o r h =
      let parts = Reads-split xs (token.Block b ∷ s ∷ rest) 0 1 r in
      let g = parts.0 in
      let two : 2 ≤ g = omega (arith, h, Reads-counts xs 0 g parts.1.0) in
      let same : (g + 1) - 1 ≡ (g - 1) + 1 = omega arith in
      Reads-append xs (s ∷ token.Block b ∷ rest) 0 g 1 parts.1.0 (by_operator g two same s o parts.1.1)
    where
      by_operator : (g : ℕ) → 2 ≤ g → (g + 1) - 1 ≡ (g - 1) + 1 → (s : Token) → is_operand s ≡ false → Reads g (token.Block b ∷ s ∷ rest) 1 → Reads g (s ∷ token.Block b ∷ rest) 1
      by_operator g two same token.Beside o r = (two, subst (λ n. Reads n rest 1) same r.1)
      by_operator g two same token.Above o r = (two, subst (λ n. Reads n rest 1) same r.1)
      by_operator g two same (token.Block c) o r = absurd cc

  -- where it stands forward, two items stand before it
  forward-two : (s : Token) → is_operand s ≡ false → Reads 0 (xs ++ s ∷ token.Block b ∷ rest) 1 → operators xs + 2 ≤ operands xs
  forward-two s o r =
      let parts = Reads-split xs (s ∷ token.Block b ∷ rest) 0 1 r in
      omega (arith, by_operator parts.0 s o parts.1.1, Reads-counts xs 0 parts.0 parts.1.0)
    where
      by_operator : (g : ℕ) (s : Token) → is_operand s ≡ false → Reads g (s ∷ token.Block b ∷ rest) 1 → 2 ≤ g
      by_operator g token.Beside o r = r.0
      by_operator g token.Above o r = r.0
      by_operator g (token.Block c) o r = absurd cc

  forward-alternates : (p s : Token) → Alternating p (xs ++ token.Block b ∷ s ∷ rest) → same_operator (last_or p xs) s ≡ false → Alternating p (xs ++ s ∷ token.Block b ∷ rest)
  forward-alternates p s a h =
      let behind = Alternating-after p xs (token.Block b ∷ s ∷ rest) a in
      Alternating-append p xs (s ∷ token.Block b ∷ rest) (Alternating-before p xs (token.Block b ∷ s ∷ rest) a) (h, (not-block s b, Alternating-free s b rest behind.1.1))

  -- an operator goes back behind an operand
  back-reads : (s : Token) → is_operand s ≡ false → Reads 0 (xs ++ s ∷ token.Block b ∷ rest) 1 → Reads 0 (xs ++ token.Block b ∷ s ∷ rest) 1
  back-reads s o r =
      let parts = Reads-split xs (s ∷ token.Block b ∷ rest) 0 1 r in
      Reads-append xs (token.Block b ∷ s ∷ rest) 0 parts.0 1 parts.1.0 (by_operator parts.0 s o parts.1.1)
    where
      by_operator : (g : ℕ) (s : Token) → is_operand s ≡ false → Reads g (s ∷ token.Block b ∷ rest) 1 → Reads g (token.Block b ∷ s ∷ rest) 1
      by_operator g token.Beside o r = let same : (g - 1) + 1 ≡ (g + 1) - 1 = omega (arith, r.0) in (omega (arith, r.0), subst (λ n. Reads n rest 1) same r.1)
      by_operator g token.Above o r = let same : (g - 1) + 1 ≡ (g + 1) - 1 = omega (arith, r.0) in (omega (arith, r.0), subst (λ n. Reads n rest 1) same r.1)
      by_operator g (token.Block c) o r = absurd cc

  back-alternates : (p s : Token) → Alternating p (xs ++ s ∷ token.Block b ∷ rest) → MayPrecede s rest → Alternating p (xs ++ token.Block b ∷ s ∷ rest)
  back-alternates p s a h =
      let behind = Alternating-after p xs (s ∷ token.Block b ∷ rest) a in
      Alternating-append p xs (token.Block b ∷ s ∷ rest) (Alternating-before p xs (s ∷ token.Block b ∷ rest) a) (not-block (last_or p xs) b, (refl, by_rest rest behind.1.1 h))
    where
      by_rest : (us : List Token) → Alternating (token.Block b) us → MayPrecede s us → Alternating s us
      by_rest [] a h = tt
      by_rest (u ∷ us) a h = (h, a.1)

  -- where it stands back, what follows doesn't begin with its like
  back-apart : (p s : Token) → Alternating p (xs ++ token.Block b ∷ s ∷ rest) → MayPrecede s rest
  back-apart p s a = by_rest rest (Alternating-after p xs (token.Block b ∷ s ∷ rest) a).1.1
    where
      by_rest : (us : List Token) → Alternating s us → MayPrecede s us
      by_rest [] a = not-block s 0
      by_rest (u ∷ us) a = a.0

-- an operand is a block
operand-block : (t : Token) → is_operand t ≡ true → (b : ℕ) × (t ≡ token.Block b)
operand-block token.Beside h = absurd cc
operand-block token.Above h = absurd cc
operand-block (token.Block b) h = (b, refl)

-- one of each kind
apart : (x y : Bool) (b : Bool) → x ≡ b → y ≡ not b → x ≢ y
apart x y true e f g = let z : true ≡ false = sym e ∙ g ∙ f in absurd cc
apart x y false e f g = let z : false ≡ true = sym e ∙ g ∙ f in absurd cc

module _ (ts : List Token) (i : ℕ) (h : i + 1 < length ts) (normal : AreNormal ts) where
  abbrev pub first : Token
  first = get_or ts i token.Beside

  abbrev pub second : Token
  second = get_or ts (i + 1) token.Beside

  -- normal by the two rules of order
  stepped-is : Reads 0 (stepped ts i) 1 → Alternating (token.Block 0) (stepped ts i) → AreNormal (stepped ts i)
  stepped-is reads alt = one-length ts (stepped ts i) (length-swap ts i (i + 1)) (stepped-normal ((length ts + 1) / 2) ts i h normal reads alt)

  -- an operator may come forward just where the tokens are normal then
  pub may-forward : is_operand first ≡ true → is_operand second ≡ false → MayFollow (take i ts) second ↔ MayStep ts i
  may-forward one other =
      let b = operand-block first one in
      let before : ts ≡ take i ts ++ token.Block b.0 ∷ second ∷ drop (i + 2) ts = cut-pair ts i token.Beside h ∙ ap (λ t. take i ts ++ t ∷ second ∷ drop (i + 2) ts) b.1 in
      let after : stepped ts i ≡ take i ts ++ second ∷ token.Block b.0 ∷ drop (i + 2) ts = stepped-cut ts i token.Beside h ∙ ap (λ t. take i ts ++ second ∷ t ∷ drop (i + 2) ts) b.1 in
      let reads = subst (λ z. Reads 0 z 1) before (normal-reads ((length ts + 1) / 2) ts normal) in
      let alt = subst (Alternating (token.Block 0)) before (first-free ts normal.alternates) in (
        λ may. (
          apart (is_operand first) (is_operand second) true one other,
          stepped-is
              (subst (λ z. Reads 0 z 1) (sym after) (forward-reads (take i ts) (drop (i + 2) ts) b.0 second other reads may.0))
              (subst (Alternating (token.Block 0)) (sym after) (forward-alternates (take i ts) (drop (i + 2) ts) b.0 (token.Block 0) second alt may.1)),
        ),
        λ may. (
          forward-two (take i ts) (drop (i + 2) ts) b.0 second other (subst (λ z. Reads 0 z 1) after (normal-reads ((length (stepped ts i) + 1) / 2) (stepped ts i) may.1)),
          (Alternating-after (token.Block 0) (take i ts) (second ∷ token.Block b.0 ∷ drop (i + 2) ts) (subst (Alternating (token.Block 0)) after (first-free (stepped ts i) may.1.alternates))).0,
        ),
      )

  -- an operator may go back just where the tokens are normal then
  pub may-back : is_operand first ≡ false → is_operand second ≡ true → MayPrecede first (drop (i + 2) ts) ↔ MayStep ts i
  may-back one other =
      let b = operand-block second other in
      let before : ts ≡ take i ts ++ first ∷ token.Block b.0 ∷ drop (i + 2) ts = cut-pair ts i token.Beside h ∙ ap (λ t. take i ts ++ first ∷ t ∷ drop (i + 2) ts) b.1 in
      let after : stepped ts i ≡ take i ts ++ token.Block b.0 ∷ first ∷ drop (i + 2) ts = stepped-cut ts i token.Beside h ∙ ap (λ t. take i ts ++ t ∷ first ∷ drop (i + 2) ts) b.1 in
      let reads = subst (λ z. Reads 0 z 1) before (normal-reads ((length ts + 1) / 2) ts normal) in
      let alt = subst (Alternating (token.Block 0)) before (first-free ts normal.alternates) in (
        λ may. (
          apart (is_operand first) (is_operand second) false one other,
          stepped-is
              (subst (λ z. Reads 0 z 1) (sym after) (back-reads (take i ts) (drop (i + 2) ts) b.0 first one reads))
              (subst (Alternating (token.Block 0)) (sym after) (back-alternates (take i ts) (drop (i + 2) ts) b.0 (token.Block 0) first alt may)),
        ),
        λ may. back-apart (take i ts) (drop (i + 2) ts) b.0 (token.Block 0) first (subst (Alternating (token.Block 0)) after (first-free (stepped ts i) may.1.alternates)),
      )

  -- the step is its own inverse
  pub stepped-twice : MayStep ts i → MayStep (stepped ts i) i × (stepped (stepped ts i) i ≡ ts)
  stepped-twice may =
      let again : stepped (stepped ts i) i ≡ ts = swap-twice ts i (i + 1) token.Beside (omega (arith, h)) h in
      let once = swapped_from_swap ts (stepped ts i) i (i + 1) token.Beside (omega (arith, h)) h refl in (
        (
          λ e. may.0 (sym (ap is_operand once.1) ∙ sym e ∙ ap is_operand once.0),
          subst AreNormal (sym again) normal,
        ),
        again,
      )
