-- The least of numbers.
use Rattle.std.proofs.Common.{ℕ, ◌≤◌, List, [], ◌∷◌, arith}
use Rattle.sf_search_core.proofs.Common.{least}

-- the least of a number and others is no greater than it
pub least-first : (n : ℕ) (xs : List ℕ) → least n xs ≤ n
least-first n [] = omega arith
least-first n (x ∷ xs) = omega (arith, least-first n xs)
