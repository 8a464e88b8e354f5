-- Two operands change places.
use Rattle.std.proofs.Common.{◌≡◌, ℕ, zero, suc, ◌+◌, ◌<◌, List, [], ◌∷◌, length, get_or, set, arith, refl, ap, sym, subst, ◌∙◌, inl, inr, true, cond}
use Rattle.sf_anneal.proofs.Common.{IsFalse, map, swap, sum_by-cons, Token, is_operand, is_block, is_outside, operands, IsNormal, normal-reads, first-free, operand_place, swapped, get_or-set_same, get_or-set_other, ext_get_or, swap_is, length-swap, swapped_from_swap, sum_by-IsPermutation, All-permutation, length_permutation, IsPermutation-swap, eqb_tells, map-set_same}
use Rattle.sf_polish.specs.declared.expr.Token.TheVariants as token
use Rattle.sf_anneal.proofs.Patterns.{normal-like, Reads-like, place-like, kind, Alternating-like, operand-kind}

-- an operand that is there stands inside, and is one
pub place-inside : (ts : List Token) (j : ℕ) → j < operands ts → operand_place ts j < length ts
place-inside [] j h = absurd (omega (arith, h))
place-inside (token.Beside ∷ ts) j h = omega (arith, place-inside ts j (omega (arith, h, sum_by-cons (λ t. cond (is_operand t) 1 0) token.Beside ts)))
place-inside (token.Above ∷ ts) j h = omega (arith, place-inside ts j (omega (arith, h, sum_by-cons (λ t. cond (is_operand t) 1 0) token.Above ts)))
place-inside (token.Block b ∷ ts) zero h = omega arith
place-inside (token.Block b ∷ ts) (suc j) h = omega (arith, place-inside ts j (omega (arith, h, sum_by-cons (λ t. cond (is_operand t) 1 0) (token.Block b) ts)))

pub place-operand : (ts : List Token) (j : ℕ) (d : Token) → j < operands ts → is_operand (get_or ts (operand_place ts j) d) ≡ true
place-operand [] j d h = absurd (omega (arith, h))
place-operand (token.Beside ∷ ts) j d h = place-operand ts j d (omega (arith, h, sum_by-cons (λ t. cond (is_operand t) 1 0) token.Beside ts))
place-operand (token.Above ∷ ts) j d h = place-operand ts j d (omega (arith, h, sum_by-cons (λ t. cond (is_operand t) 1 0) token.Above ts))
place-operand (token.Block b ∷ ts) zero d h = refl
place-operand (token.Block b ∷ ts) (suc j) d h = place-operand ts j d (omega (arith, h, sum_by-cons (λ t. cond (is_operand t) 1 0) (token.Block b) ts))

-- a list in which the element at b was written at a still has it at b
still : {X : Type 0} (xs : List X) (a b : ℕ) (d : X) → a < length xs → get_or (set xs a (get_or xs b d)) b d ≡ get_or xs b d
still xs a b d h = elim (eqb_tells b a) [
  | inl p ↦ subst (λ k. get_or (set xs a (get_or xs b d)) k d ≡ get_or xs b d) (sym p.1) (get_or-set_same xs a (get_or xs b d) d h)
  | inr p ↦ get_or-set_other xs a b (get_or xs b d) d p.1
]

-- where two elements that f can't tell apart change places, f of each place is as it was
pub map-swap : {X Y : Type 0} (f : X → Y) (xs : List X) (a b : ℕ) (d : X) → a < length xs → b < length xs → f (get_or xs a d) ≡ f (get_or xs b d) → map f (swap xs a b) ≡ map f xs
map-swap f xs a b d ha hb e =
    ap (map f) (sym (swap_is xs a b d ha hb))
    ∙ map-set_same f (set xs a (get_or xs b d)) b (get_or xs a d) d (e ∙ ap f (sym (still xs a b d ha)))
    ∙ map-set_same f xs a (get_or xs b d) d (sym e)

-- an exchange made again restores the list
pub swap-twice : {X : Type 0} (xs : List X) (a b : ℕ) (d : X) → a < length xs → b < length xs → swap (swap xs a b) a b ≡ xs
swap-twice xs a b d ha hb =
    let once = swapped_from_swap xs (swap xs a b) a b d ha hb refl in
    let long = length-swap xs a b in
    let twice = swapped_from_swap (swap xs a b) (swap (swap xs a b) a b) a b d (omega (arith, long)) (omega (arith, long)) refl in
    ext_get_or d (swap (swap xs a b) a b) xs (length-swap (swap xs a b) a b ∙ long) (λ i h.
    elim (eqb_tells i a) [
      | inl p ↦ subst (λ k. get_or (swap (swap xs a b) a b) k d ≡ get_or xs k d) (sym p.1) (twice.0 ∙ once.1)
      | inr p ↦ elim (eqb_tells i b) [
        | inl q ↦ subst (λ k. get_or (swap (swap xs a b) a b) k d ≡ get_or xs k d) (sym q.1) (twice.1 ∙ once.0)
        | inr q ↦ twice.2 i p.1 q.1 ∙ once.2 i p.1 q.1
      ]
    ])

-- the exchange keeps the pattern of operands
pub swapped-pattern : (ts : List Token) (j : ℕ) → j + 1 < operands ts → map is_operand (swapped ts j) ≡ map is_operand ts
swapped-pattern ts j h =
    map-swap is_operand ts (operand_place ts j) (operand_place ts (j + 1)) token.Beside (place-inside ts j (omega (arith, h))) (place-inside ts (j + 1) h)
    (place-operand ts j token.Beside (omega (arith, h)) ∙ sym (place-operand ts (j + 1) token.Beside h))

-- and the pattern of operators
swapped-kinds : (ts : List Token) (j : ℕ) → j + 1 < operands ts → map kind (swapped ts j) ≡ map kind ts
swapped-kinds ts j h =
    map-swap kind ts (operand_place ts j) (operand_place ts (j + 1)) token.Beside (place-inside ts j (omega (arith, h))) (place-inside ts (j + 1) h)
    (operand-kind (get_or ts (operand_place ts j) token.Beside) (place-operand ts j token.Beside (omega (arith, h))) ∙ sym (operand-kind (get_or ts (operand_place ts (j + 1)) token.Beside) (place-operand ts (j + 1) token.Beside h)))

-- normal tokens stay normal
pub swapped-normal : (blocks : ℕ) (ts : List Token) (j : ℕ) → IsNormal blocks ts → j + 1 < operands ts → IsNormal blocks (swapped ts j)
swapped-normal blocks ts j normal h =
    let us = swapped ts j in
    let moved = IsPermutation-swap ts us (operand_place ts j) (operand_place ts (j + 1)) (place-inside ts j (omega (arith, h))) (place-inside ts (j + 1) h) refl in
    normal-like blocks ts us normal
    (λ b. sum_by-IsPermutation (λ t. cond (is_block b t) 1 0) ts us moved)
    (All-permutation (λ t. IsFalse (is_outside blocks t)) ts us moved normal.no_other)
    (length_permutation ts us moved)
    (Reads-like ts us 0 1 (swapped-pattern ts j h) (normal-reads blocks ts normal))
    (Alternating-like ts us (token.Block 0) (token.Block 0) refl (swapped-kinds ts j h) (first-free ts normal.alternates))

-- made again the exchange restores the tokens
pub swapped-twice : (ts : List Token) (j : ℕ) → j + 1 < operands ts → swapped (swapped ts j) j ≡ ts
swapped-twice ts j h =
    let us = swapped ts j in
    let first = place-like ts us j (swapped-pattern ts j h) in
    let second = place-like ts us (j + 1) (swapped-pattern ts j h) in
    ap (λ a. swap us a (operand_place us (j + 1))) first ∙ ap (swap us (operand_place ts j)) second
    ∙ swap-twice ts (operand_place ts j) (operand_place ts (j + 1)) token.Beside (place-inside ts j (omega (arith, h))) (place-inside ts (j + 1) h)

-- as many operands as before
pub swapped-operands : (ts : List Token) (j : ℕ) → j + 1 < operands ts → operands (swapped ts j) ≡ operands ts
swapped-operands ts j h =
    sum_by-IsPermutation (λ t. cond (is_operand t) 1 0) ts (swapped ts j)
    (IsPermutation-swap ts (swapped ts j) (operand_place ts j) (operand_place ts (j + 1)) (place-inside ts j (omega (arith, h))) (place-inside ts (j + 1) h) refl)
