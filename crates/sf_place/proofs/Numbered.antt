-- In a list by number, the spot at a place is the spot of the block of that number.
use Rattle.std.proofs.Common.{All, AllPairs, ◌≡◌, ℕ, suc, ◌+◌, ◌<◌, List, [], ◌∷◌, map, length, get_or, ap, sym, subst, ◌∙◌, arith}
use Rattle.sf_place.proofs.Common.{range_with_len, nat_tests, Spot, spot_of, Overlaps, IsByNumber, OverlapsNoLater, zero}
use Rattle.sf_place.proofs.Found.{block-spot_of}

-- in spots of blocks a, a + 1 and so on each block is found at its place
spot_of-from : (a n : ℕ) (spots : List Spot) → map (λ s. s.block) spots ≡ range_with_len a n → (k : ℕ) (d : Spot) → k < length spots → spot_of (a + k) spots ≡ get_or spots k d
spot_of-from a n [] e k d h = absurd (omega arith)
spot_of-from a zero (s ∷ ss) e k d h = cc
spot_of-from a (suc n) (s ∷ ss) e zero d h =
    let b : s.block ≡ a = cc in
    grind (arith, nat_tests, b)
spot_of-from a (suc n) (s ∷ ss) e (suc k) d h =
    let b : s.block ≡ a = cc in
    let tail : map (λ s. s.block) ss ≡ range_with_len (a + 1) n = cc in
    let go : spot_of ((a + 1) + k) ss ≡ get_or ss k d = spot_of-from (a + 1) n ss tail k d (omega arith) in
    let same : (a + 1) + k ≡ a + suc k = omega arith in
    grind (arith, nat_tests, b, subst (λ v. spot_of v ss ≡ get_or ss k d) same go)

-- in a list by number a block is found at its place
pub spot_of_numbered : (spots : List Spot) (k : ℕ) (d : Spot) → IsByNumber spots → k < length spots → spot_of k spots ≡ get_or spots k d
spot_of_numbered spots k d e h = subst (λ v. spot_of v spots ≡ get_or spots k d) (let z : 0 + k ≡ k = omega arith in z) (spot_of-from 0 (length spots) spots e k d h)

-- in a list by number each place has its block
pub block_numbered : (spots : List Spot) (k : ℕ) (d : Spot) → IsByNumber spots → k < length spots → (get_or spots k d).block ≡ k
block_numbered spots k d e h = sym (ap (λ s. s.block) (spot_of_numbered spots k d e h)) ∙ block-spot_of k spots

-- what holds of the spot of each block holds of each spot
pub all_by_number : (P : Spot → Type 0) (spots : List Spot) → IsByNumber spots → ((a : ℕ) → a < length spots → P (spot_of a spots)) → All P spots
all_by_number P spots e f k d h = subst P (spot_of_numbered spots k d e h) (f k h)

-- where no spot overlaps a later one, no two overlap
pub apart_by_number : (spots : List Spot) → IsByNumber spots → ((a : ℕ) → a < length spots → OverlapsNoLater spots a) → AllPairs (λ s t. ¬ (Overlaps s t)) spots
apart_by_number spots e f i j d h k =
    let low : i < length spots = omega (arith, h, k) in
    rw (← spot_of_numbered spots i d e low, ← spot_of_numbered spots j d e k) (f i low j h k)
