-- One more line.
use Rattle.std.proofs.Common.{◌≡◌, ℕ, ◌+◌, ◌<◌, List, ◌++◌, length, get_or, take, ap, sym, ◌∙◌, append_assoc}
use Rattle.sf_pl_writer.proofs.Common.{flat_map, take_more, flat_map_more}

-- one more line behind those of the items so far
pub lines_more : {X : Type 0} (f : X → List ℕ) (xs : List X) (i : ℕ) (d : X) (old before new : List ℕ) → i < length xs → before ≡ old ++ flat_map f (take i xs) → new ≡ before ++ f (get_or xs i d) → new ≡ old ++ flat_map f (take (i + 1) xs)
lines_more f xs i d old before new h was is =
    is ∙ ap (λ v. v ++ f (get_or xs i d)) was ∙ flat_map_more f old (take i xs) (get_or xs i d) ∙ ap (λ v. old ++ flat_map f v) (sym (take_more xs i d h))

-- a name, and behind it a line of two parts
pub line_of : (old name place rest mid line new : List ℕ) → mid ≡ old ++ name → line ≡ place ++ rest → new ≡ mid ++ line → new ≡ old ++ ((name ++ place) ++ rest)
line_of old name place rest mid line new m l n =
    n ∙ ap (λ v. v ++ line) m ∙ ap (λ v. (old ++ name) ++ v) l
    ∙ append_assoc old name (place ++ rest) ∙ ap (λ v. old ++ v) (sym (append_assoc name place rest))
