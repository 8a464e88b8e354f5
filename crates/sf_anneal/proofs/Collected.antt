-- What threads gave in order.
use Rattle.std.proofs.Common.{◌≡◌, ℕ, zero, suc, ◌+◌, ◌<◌, ◌≤◌, List, [], ◌∷◌, length, map, refl, ap, subst, arith, Result, Ok, slice_index_or}
use Rattle.sf_anneal.proofs.Common.{AllZip, range_with_len}

-- what holds of each number and what it gave holds of what stands at its place
pub gave-at : {X E : Type 0} (P : ℕ → Result X E → Type 0) (Q : ℕ → X → Type 0) (a n : ℕ) (ys : List X) → ((i : ℕ) (y : X) → P i (Ok y) → Q i y) → AllZip P (range_with_len a n) (map (λ y. Ok y) ys)
    → (k : ℕ) (d : X) (m : ℕ) → m ≡ a + k → k < n → Q m (slice_index_or ys k d)
gave-at P Q a zero ys says h k d m e b = absurd (omega (arith, b))
gave-at P Q a (suc n) [] says h k d m e b = absurd h
gave-at P Q a (suc n) (y ∷ ys) says h zero d m e b = let same : a ≡ m = omega (arith, e) in subst (λ i. Q i y) same (says a y h.0)
gave-at P Q a (suc n) (y ∷ ys) says h (suc k) d m e b = gave-at P Q (a + 1) n ys says h.1 k d m (omega (arith, e)) (omega (arith, b))

-- there is one for each number
pub gave-count : {X E : Type 0} (P : ℕ → Result X E → Type 0) (a n : ℕ) (ys : List X) → AllZip P (range_with_len a n) (map (λ y. Ok y) ys) → length ys ≡ n
gave-count P a zero [] h = refl
gave-count P a zero (y ∷ ys) h = absurd h
gave-count P a (suc n) [] h = absurd h
gave-count P a (suc n) (y ∷ ys) h = ap suc (gave-count P (a + 1) n ys h.1)

-- the two lists that are known by equations
pub gave : {X E : Type 0} (P : ℕ → Result X E → Type 0) (n : ℕ) (ns : List ℕ) (rs : List (Result X E)) (ys : List X) → ns ≡ range_with_len 0 n → rs ≡ map (λ y. Ok y) ys → AllZip P ns rs → AllZip P (range_with_len 0 n) (map (λ y. Ok y) ys)
gave P n ns rs ys a b h = subst (λ l. AllZip P l (map (λ y. Ok y) ys)) a (subst (AllZip P ns) b h)

-- where each number of a stretch has something, all of them together are a list
pub gathered : {X : Type 0} (P : ℕ → X → Type 0) (a n : ℕ) → ((i : ℕ) → a ≤ i → i < a + n → (x : X) × P i x) → (xs : List X) × (length xs ≡ n) × ((k : ℕ) (d : X) (m : ℕ) → m ≡ a + k → k < n → P m (slice_index_or xs k d))
gathered {X = X} P a zero each = ([], refl, λ k d m e b. absurd (omega (arith, b)))
gathered {X = X} P a (suc n) each =
    let head = each a (omega arith) (omega arith) in
    let rest = gathered P (a + 1) n (λ i l h. each i (omega (arith, l)) (omega (arith, h))) in
    (head.0 ∷ rest.0, ap suc rest.1, λ k d m e b. at head.0 head.1 rest.0 rest.2 k d m e b)
  where
    at : (x : X) → P a x → (xs : List X) → ((k : ℕ) (d : X) (m : ℕ) → m ≡ a + 1 + k → k < n → P m (slice_index_or xs k d)) → (k : ℕ) (d : X) (m : ℕ) → m ≡ a + k → k < suc n → P m (slice_index_or (x ∷ xs) k d)
    at x p xs h zero d m e b = let same : a ≡ m = omega (arith, e) in subst (λ i. P i x) same p
    at x p xs h (suc k) d m e b = h k d m (omega (arith, e)) (omega (arith, b))
