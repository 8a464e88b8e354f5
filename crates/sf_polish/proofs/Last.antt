-- The last token by its place.
use Rattle.std.proofs.Common.{◌≡◌, ℕ, ◌-◌, ◌<◌, List, [], ◌∷◌, length, get_or, arith, refl, ap, ◌∙◌}
use Rattle.sf_polish.proofs.Common.{Token, last_or}

-- the last token of a list that is not empty stands at the end
last_or-some : (p x d : Token) (xs : List Token) → last_or p (x ∷ xs) ≡ get_or (x ∷ xs) (length xs) d
last_or-some p x d [] = refl
last_or-some p x d (y ∷ ys) = last_or-some x y d ys

-- the last token of a list that is not empty stands at the place before its length
pub last_or_place : (p d : Token) (xs : List Token) (n : ℕ) → 0 < length xs → n ≡ length xs - 1 → last_or p xs ≡ get_or xs n d
last_or_place p d [] n h e = absurd (omega arith)
last_or_place p d (x ∷ xs) n h e =
    let i : length xs ≡ n = omega arith in
    last_or-some p x d xs ∙ ap (λ k. get_or (x ∷ xs) k d) i
