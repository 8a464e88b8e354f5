-- Lists of four.
use Rattle.std.proofs.Common.{◌≡◌, ◌<◌, ◌≤◌, List, [], ◌∷◌, length, get_or, map, sym, arith}
use Rattle.sf_jobs.proofs.Common.{Text}

-- a list of four elements by these
pub four : {X : Type 0} (f : X → Text) (xs : List X) (a b c d : X) → 4 ≤ length xs → length xs < 5 → a ≡ get_or xs 0 a → b ≡ get_or xs 1 b → c ≡ get_or xs 2 c → d ≡ get_or xs 3 d
    → map f xs ≡ f a ∷ f b ∷ f c ∷ f d ∷ []
four f [] a b c d l u p q r s = absurd (omega arith)
four f (v ∷ []) a b c d l u p q r s = absurd (omega arith)
four f (v ∷ w ∷ []) a b c d l u p q r s = absurd (omega arith)
four f (v ∷ w ∷ x ∷ []) a b c d l u p q r s = absurd (omega arith)
four f (v ∷ w ∷ x ∷ y ∷ []) a b c d l u p q r s = λ i. f (sym p i) ∷ f (sym q i) ∷ f (sym r i) ∷ f (sym s i) ∷ []
four f (v ∷ w ∷ x ∷ y ∷ z ∷ more) a b c d l u p q r s = absurd (omega arith)

-- equal lists of four have the same last element
pub last_same : {a b c d e f g h : Text} → a ∷ b ∷ c ∷ d ∷ [] ≡ e ∷ f ∷ g ∷ h ∷ [] → d ≡ h
last_same e = cc
