-- The least of numbers.
use Rattle.std.specs.Prelude.{ℕ, min, List, [], ◌∷◌}

-- the least of n and the numbers
abbrev pub least : ℕ → List ℕ → ℕ
least n [] = n
least n (x ∷ xs) = min x (least n xs)
