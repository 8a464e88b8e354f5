-- A legal placement has no fault.
use Rattle.std.proofs.Common.{ℕ, List, [], All, AllPairs, subst, sym, arith}
use Rattle.sf_place.proofs.Common.{Spot, Overlaps, spot_of, IsByNumber, IsFirstWithout, IsLeastPair}
use Rattle.sf_place.proofs.Numbered.{spot_of_numbered}

-- where all spots are as P says, none is the first that is not
pub none_without : (P : Spot → Type 0) (spots : List Spot) (b : ℕ) → IsByNumber spots → All P spots → ¬ (IsFirstWithout P spots b)
none_without P spots b e a f =
    let d = spot_of b [] in f.without (subst P (sym (spot_of_numbered spots b d e f.in_range)) (a b d f.in_range))

-- where no two overlap, no two are the first that do
pub none_over : (spots : List Spot) (a b : ℕ) → IsByNumber spots → AllPairs (λ s t. ¬ (Overlaps s t)) spots → ¬ (IsLeastPair spots a b)
none_over spots a b e apart least =
    let f = least.pair in
    let d = spot_of a [] in
    let first = spot_of_numbered spots a d e (omega (arith, f.in_order, f.in_range)) in
    apart a b d f.in_order f.in_range (rw (first, spot_of_numbered spots b d e f.in_range) at f.overlap)
