-- What stands behind two hyphens.
use Rattle.std.proofs.Common.{◌≡◌, ◌≢◌, ℕ, List, ◌∷◌, Option, Some, None, MatchOption, Bor, sym, ap, ◌∙◌}
use Rattle.sf_words.proofs.Common.{Text}

-- a text that begins with a hyphen begins with two just where the rest begins with one, and the same is left
pub behind_two : (bs tail : Text) (r : Option (Bor (List ℕ))) → bs ≡ 45 ∷ tail
    → MatchOption r ((rest : Text) → tail ≢ 45 ∷ rest) (λ x. tail ≡ 45 ∷ x.now)
    → MatchOption r ((rest : Text) → bs ≢ 45 ∷ 45 ∷ rest) (λ x. bs ≡ 45 ∷ 45 ∷ x.now)
behind_two bs tail None e h = λ rest two. h rest (let both : 45 ∷ tail ≡ 45 ∷ 45 ∷ rest = sym e ∙ two in cc)
behind_two bs tail (Some x) e h = e ∙ ap (λ t. 45 ∷ t) h
