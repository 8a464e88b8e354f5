-- Tokens with the same pattern of operands and operators, and when what is rearranged is normal again.
use Rattle.std.proofs.Common.{◌≡◌, ℕ, zero, suc, ◌+◌, ◌-◌, ◌*◌, ◌/◌, List, [], ◌∷◌, length, arith, refl, ap, sym, subst, ◌∙◌, true, false}
use Rattle.sf_anneal.proofs.Common.{All, IsFalse, count_by, map, Token, is_operand, is_block, is_outside, same_operator, IsNormal, Reads, Reads-ballot, Alternating, alternates, AreNormal, operand_place}
use Rattle.sf_polish.specs.declared.expr.Token.TheVariants as token

-- tokens with the blocks, the length, the ballot rule and the alternation of normal ones are normal
pub normal-like : (blocks : ℕ) (ts us : List Token) → IsNormal blocks ts → ((b : ℕ) → count_by (is_block b) us ≡ count_by (is_block b) ts) → All (λ t. IsFalse (is_outside blocks t)) us → length us ≡ length ts → Reads 0 us 1 → Alternating (token.Block 0) us → IsNormal blocks us
normal-like blocks ts us normal count inside len reads alt = record {
  each_once = λ b h. count b ∙ normal.each_once b h;
  no_other = inside;
  ballot = Reads-ballot us 1 reads;
  whole = omega (arith, normal.whole, len);
  alternates = alternates (token.Block 0) us alt;
}

-- so many blocks have normal tokens of one length
pub one-length : (ts us : List Token) → length us ≡ length ts → IsNormal ((length ts + 1) / 2) us → AreNormal us
one-length ts us e normal = subst (λ n. IsNormal ((n + 1) / 2) us) (sym e) normal

-- and the other way round
pub of-length : (blocks : ℕ) (ts : List Token) → length ts + 1 ≡ 2 * blocks → AreNormal ts → IsNormal blocks ts
of-length blocks ts e normal =
    let h : (length ts + 1) / 2 ≡ blocks = omega (arith, e) in
    subst (λ n. IsNormal n ts) h normal

-- the ballot rule looks at no more than what is an operand
pub Reads-like : (ts us : List Token) (h g : ℕ) → map is_operand us ≡ map is_operand ts → Reads h ts g → Reads h us g
Reads-like [] [] h g e r = r
Reads-like [] (u ∷ us) h g e r = absurd cc
Reads-like (t ∷ ts) [] h g e r = absurd cc
Reads-like (token.Beside ∷ ts) (token.Beside ∷ us) h g e r = (r.0, Reads-like ts us (h - 1) g (cc) r.1)
Reads-like (token.Beside ∷ ts) (token.Above ∷ us) h g e r = (r.0, Reads-like ts us (h - 1) g (cc) r.1)
Reads-like (token.Beside ∷ ts) (token.Block c ∷ us) h g e r = absurd cc
Reads-like (token.Above ∷ ts) (token.Beside ∷ us) h g e r = (r.0, Reads-like ts us (h - 1) g (cc) r.1)
Reads-like (token.Above ∷ ts) (token.Above ∷ us) h g e r = (r.0, Reads-like ts us (h - 1) g (cc) r.1)
Reads-like (token.Above ∷ ts) (token.Block c ∷ us) h g e r = absurd cc
Reads-like (token.Block b ∷ ts) (token.Beside ∷ us) h g e r = absurd cc
Reads-like (token.Block b ∷ ts) (token.Above ∷ us) h g e r = absurd cc
Reads-like (token.Block b ∷ ts) (token.Block c ∷ us) h g e r = Reads-like ts us (h + 1) g (cc) r

-- so do the places of operands
pub place-like : (ts us : List Token) (j : ℕ) → map is_operand us ≡ map is_operand ts → operand_place us j ≡ operand_place ts j
place-like [] [] j e = refl
place-like [] (u ∷ us) j e = absurd cc
place-like (t ∷ ts) [] j e = absurd cc
place-like (token.Beside ∷ ts) (token.Beside ∷ us) j e = ap suc (place-like ts us j (cc))
place-like (token.Beside ∷ ts) (token.Above ∷ us) j e = ap suc (place-like ts us j (cc))
place-like (token.Beside ∷ ts) (token.Block c ∷ us) j e = absurd cc
place-like (token.Above ∷ ts) (token.Beside ∷ us) j e = ap suc (place-like ts us j (cc))
place-like (token.Above ∷ ts) (token.Above ∷ us) j e = ap suc (place-like ts us j (cc))
place-like (token.Above ∷ ts) (token.Block c ∷ us) j e = absurd cc
place-like (token.Block b ∷ ts) (token.Beside ∷ us) j e = absurd cc
place-like (token.Block b ∷ ts) (token.Above ∷ us) j e = absurd cc
place-like (token.Block b ∷ ts) (token.Block c ∷ us) zero e = refl
place-like (token.Block b ∷ ts) (token.Block c ∷ us) (suc j) e = ap suc (place-like ts us j (cc))

-- the operator, or some block
abbrev pub kind : Token → Token
kind token.Beside = token.Beside
kind token.Above = token.Above
kind (token.Block b) = token.Block 0

-- whether two tokens are one operator depends on their kinds
pub same-kind : (p q : Token) → same_operator (kind p) (kind q) ≡ same_operator p q
same-kind token.Beside token.Beside = refl
same-kind token.Beside token.Above = refl
same-kind token.Beside (token.Block c) = refl
same-kind token.Above token.Beside = refl
same-kind token.Above token.Above = refl
same-kind token.Above (token.Block c) = refl
same-kind (token.Block b) token.Beside = refl
same-kind (token.Block b) token.Above = refl
same-kind (token.Block b) (token.Block c) = refl

-- so the alternation of operators does
pub Alternating-like : (ts us : List Token) (p q : Token) → kind q ≡ kind p → map kind us ≡ map kind ts → Alternating p ts → Alternating q us
Alternating-like [] [] p q k e a = tt
Alternating-like [] (u ∷ us) p q k e a = absurd cc
Alternating-like (t ∷ ts) [] p q k e a = tt
Alternating-like (t ∷ ts) (u ∷ us) p q k e a =
    let first : kind u ≡ kind t = cc in
    let more : map kind us ≡ map kind ts = cc in (
      sym (same-kind q u) ∙ ap (λ z. same_operator z (kind u)) k ∙ ap (same_operator (kind p)) first ∙ same-kind p t ∙ a.0,
      Alternating-like ts us t u first more a.1,
    )

-- what alternates behind a token does so behind a block
pub Alternating-free : (p : Token) (b : ℕ) (ts : List Token) → Alternating p ts → Alternating (token.Block b) ts
Alternating-free p b [] a = tt
Alternating-free p b (t ∷ ts) a = (refl, a.1)

-- a block is the same operator as no token
pub not-block : (p : Token) (b : ℕ) → same_operator p (token.Block b) ≡ false
not-block token.Beside b = refl
not-block token.Above b = refl
not-block (token.Block c) b = refl

-- the kind of an operand
pub operand-kind : (t : Token) → is_operand t ≡ true → kind t ≡ token.Block 0
operand-kind token.Beside h = absurd cc
operand-kind token.Above h = absurd cc
operand-kind (token.Block b) h = refl
