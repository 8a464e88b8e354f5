-- Whether tokens begin with others, by comparing token by token.
use Rattle.std.proofs.Common.{◌≡◌, ℕ, List, length, take, refl, ap, sym, ◌∙◌, ◌==◌, Bool, true, false, ◌↔◌, Decides}
use Rattle.sf_node.proofs.Common.{IsTrue, true≢false, eqb-true, eq-eqb, Token, BeginsWith}
use Rattle.std.specs.Cmp.Lexicographic.{pointwise}
use Rattle.std.proofs.lemmas.Slice.Eq.{slice_eq-Decides}
use Rattle.sf_polish.specs.declared.expr.Token.TheVariants.{Beside, Above, Block}

module _ (E : Token → Token → Bool) (beside : E Beside Beside ≡ true) (above : E Above Above ≡ true) (block : (b c : ℕ) → E (Block b) (Block c) ≡ (b == c)) (one : E Beside Above ≡ false) (two : E Above Beside ≡ false) (three : (b : ℕ) → E Beside (Block b) ≡ false) (four : (b : ℕ) → E (Block b) Beside ≡ false) (five : (b : ℕ) → E Above (Block b) ≡ false) (six : (b : ℕ) → E (Block b) Above ≡ false) where
  -- a test that fails, on tokens that differ, decides whether they are the same
  no : (a b : Token) → (a ≡ b → ⊥) → E a b ≡ false → Decides (E a b) (a ≡ b)
  no a b ne e = (λ t. absurd (true≢false (sym t ∙ e)), λ s. absurd (ne s))

  -- a test that tells tokens apart decides whether they are the same
  decides : (a b : Token) → Decides (E a b) (a ≡ b)
  decides Beside Beside = (λ t. refl, λ s. beside)
  decides Beside Above = no Beside Above (λ s. absurd (cc)) one
  decides Beside (Block b) = no Beside (Block b) (λ s. absurd (cc)) (three b)
  decides Above Beside = no Above Beside (λ s. absurd (cc)) two
  decides Above Above = (λ t. refl, λ s. above)
  decides Above (Block b) = no Above (Block b) (λ s. absurd (cc)) (five b)
  decides (Block b) Beside = no (Block b) Beside (λ s. absurd (cc)) (four b)
  decides (Block b) Above = no (Block b) Above (λ s. absurd (cc)) (six b)
  decides (Block b) (Block c) = (
    λ t. ap (λ (n : ℕ). Block n) (eqb-true b c (sym (block b c) ∙ t)),
    λ s. (let e : b ≡ c = cc in block b c ∙ eq-eqb b c e),
  )

  -- tokens that pass the test one by one begin the others
  pub begins-is : (ts begin : List Token) (r : Bool) → r ≡ pointwise E begin (take (length begin) ts) → IsTrue r ↔ BeginsWith ts begin
  begins-is ts begin r e =
      let d = slice_eq-Decides decides begin (take (length begin) ts) r e in
      (λ t. sym (d.0 t), λ h. d.1 (sym h))
