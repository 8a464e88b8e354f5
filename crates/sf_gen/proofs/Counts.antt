-- The counts of soft and of hard blocks, and of pins.
use Rattle.std.proofs.Common.{◌≡◌, ℕ, zero, suc, ◌+◌, ◌*◌, ◌/◌, ◌%◌, ◌≤◌, ◌==◌, Bool, true, false, cond, List, [], ◌∷◌, length, refl, sym, ap, ◌∙◌, arith}
use Rattle.sf_gen.proofs.Common.{not, count_by, sum_by, range_with_len, nat_tests, length-filter, sum_by-cons, length-range_with_len, Kinds, Ends, net_count, indexed, is_soft, soft_count, hard_count, pins_of, nets_pins, pad_name, pad_pins, div_ceil}
use Rattle.std.proofs.lemmas.List.Filters.{length-filter_both}
use Rattle.sf_gen.specs.declared.design.Kinds.TheVariants.{Hard, Mixed}

-- the count over a longer list is one more where the new element counts
count_cons : (p : ℕ → Bool) (x : ℕ) (xs : List ℕ) → count_by p (x ∷ xs) ≡ cond (p x) 1 0 + count_by p xs
count_cons p x xs = sum_by-cons (λ y. cond (p y) 1 0) x xs

-- with hard kinds no block is soft
none_from : (a n : ℕ) → count_by (is_soft Hard) (range_with_len a n) ≡ 0
none_from a zero = refl
none_from a (suc n) = rw (count_cons (is_soft Hard) a (range_with_len (a + 1) n), none_from (a + 1) n) refl

-- the count of odd numbers, as a difference of halves, holds with one more number
odd_step : (a n k : ℕ) → k + (a + 1) / 2 ≡ (a + 1 + n) / 2 → (cond (a % 2 == 1) 1 0 + k) + a / 2 ≡ (a + suc n) / 2
odd_step a n k h = grind (arith, nat_tests)

-- among the n numbers from a on, the odd ones are the half of a + n without the half of a, rounded down
odd_from : (a n : ℕ) → count_by (is_soft Mixed) (range_with_len a n) + a / 2 ≡ (a + n) / 2
odd_from a zero = omega arith
odd_from a (suc n) = rw (count_cons (is_soft Mixed) a (range_with_len (a + 1) n)) (odd_step a n _ (odd_from (a + 1) n))

-- with hard kinds the count of soft blocks is 0
pub soft_of_hard : (n : ℕ) → 0 ≡ soft_count Hard n
soft_of_hard n = sym (none_from 0 n)

-- with mixed kinds the count of soft blocks is the half of n, rounded down
pub soft_of_mixed : (n : ℕ) → n / 2 ≡ soft_count Mixed n
soft_of_mixed n = omega (arith, odd_from 0 n)

-- each block is soft or hard
pub all_blocks : (kinds : Kinds) (n : ℕ) → soft_count kinds n + hard_count kinds n ≡ n
all_blocks kinds n =
    let p = is_soft kinds in
    rw (← length-filter p (range_with_len 0 n), ← length-filter (λ i. not (p i)) (range_with_len 0 n)) (length-filter_both p (λ i. not (p i)) (λ i. refl) (range_with_len 0 n) ∙ length-range_with_len 0 n)

-- ---- pins

-- there are as many results as elements
pub length-indexed : {X Y : Type 0} (f : ℕ → X → Y) (i : ℕ) (xs : List X) → length (indexed f i xs) ≡ length xs
length-indexed f i [] = refl
length-indexed f i (x ∷ xs) = ap suc (length-indexed f (i + 1) xs)

-- a net has one pad where its number is a multiple of 3, and else none
pub pad_count : (j : ℕ) → length (pad_pins j) ≡ cond (j % 3 == 0) 1 0
pad_count j = elim (j % 3 == 0) as (λ b. length (cond b (pad_name (j % 4) ∷ []) []) ≡ cond b 1 0) [ true ↦ refl | false ↦ refl ]

-- the count of pins, as a sum of twice the nets and of thirds, holds with one more net
third_step : (j n k : ℕ) → k + (j + 1 + 2) / 3 ≡ 2 * n + (j + 1 + n + 2) / 3 → (suc (suc (cond (j % 3 == 0) 1 0)) + k) + (j + 2) / 3 ≡ 2 * suc n + (j + suc n + 2) / 3
third_step j n k h = grind (arith, nat_tests)

-- the nets from number j on have two pins each, and one more for each multiple of 3 among their numbers
pins_from : (j : ℕ) (ends : List Ends) → sum_by length (indexed pins_of j ends) + (j + 2) / 3 ≡ 2 * length ends + (j + length ends + 2) / 3
pins_from j [] = omega arith
pins_from j (e ∷ ends) = rw (sum_by-cons length (pins_of j e) (indexed pins_of (j + 1) ends), pad_count j) (third_step j (length ends) _ (pins_from (j + 1) ends))

-- at most 320 blocks have at most 640 nets
pub few_nets : (n : ℕ) → n ≤ 320 → net_count n ≤ 640
few_nets n h = grind (arith, nat_tests)

-- the nets have together two pins each, and one more for a third of them, rounded up
pub all_pins : (ends : List Ends) → 2 * length ends + div_ceil (length ends) 3 ≡ sum_by length (nets_pins ends)
all_pins ends = omega (arith, pins_from 0 ends)
