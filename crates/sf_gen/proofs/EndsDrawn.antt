-- What is drawn keeps to its limits.
use Rattle.std.proofs.Common.{◌≡◌, ℕ, ◌+◌, ◌*◌, ◌%◌, ◌<◌, ◌≤◌, ◌==◌, true, false, cond, List, [], ◌∷◌, length, ◌∙◌, arith}
use Rattle.sf_gen.proofs.Common.{map, sum_by, AllByRecursion, range_with_len, nat_tests, length-map-range_with_len, Ends, ends, ends_at, net_count, size_at, sizes, word, indexed, pad_name, pad_pins, pins_of, nets_pins, each-any, each-map}
use Rattle.sf_gen.proofs.Counts.{length-indexed, all_pins, few_nets, pad_count}
use Rattle.sf_gen.proofs.BlockLines.{IsSmall}
use Rattle.sf_gen.proofs.NetsRead.{IsName, of_block, of_pad, IsNet}

-- where f gives the property to each number, all of a range have it
each_drawn : {X : Type 0} (P : X → Type 0) (f : ℕ → X) → ((i : ℕ) → P (f i)) → (n : ℕ) → AllByRecursion P (map f (range_with_len 0 n))
each_drawn P f h n = each-map P f (range_with_len 0 n) (each-any (λ i. P (f i)) h (range_with_len 0 n))

-- where f makes of elements with P results with Q, all results of a list with P have Q
pub each_indexed : {X Y : Type 0} (P : X → Type 0) (Q : Y → Type 0) (f : ℕ → X → Y) → ((i : ℕ) (x : X) → P x → Q (f i x)) → (i : ℕ) (xs : List X) → AllByRecursion P xs → AllByRecursion Q (indexed f i xs)
each_indexed P Q f h i [] ok = tt
each_indexed P Q f h i (x ∷ xs) ok = (h i x ok.0, each_indexed P Q f h (i + 1) xs ok.1)

-- both ends are blocks
pub record IsAmong (n : ℕ) (e : Ends) : Type 0 where
  pub first : e.a < n
  pub second : e.b < n

-- both ends of each net that is drawn are blocks
pub ends_among : (seed n : ℕ) → 1 ≤ n → AllByRecursion (IsAmong n) (ends seed n)
ends_among seed n h =
    each_drawn (IsAmong n) (ends_at seed n)
    (λ j. record { first = omega (arith, h); second = omega (arith, h) }) (net_count n)

-- the pad of a net, if there is one, has a name of the right form
pad_names : (j : ℕ) → AllByRecursion IsName (pad_pins j)
pad_names j = elim (j % 3 == 0) as (λ b. AllByRecursion IsName (cond b (pad_name (j % 4) ∷ []) [])) [ true ↦ (of_pad (j % 4) (omega arith), tt) | false ↦ tt ]

-- the names of a net's pins are of the right form and at most three
pub net_of_ends : (n : ℕ) → n ≤ 320 → (j : ℕ) (e : Ends) → IsAmong n e → IsNet (pins_of j e)
net_of_ends n h j e among = record {
  names = (of_block e.a (omega (arith, among.first)), (of_block e.b (omega (arith, among.second)), pad_names j));
  few = grind (arith, nat_tests, pad_count j);
}

-- each net that is drawn has at most three pins, with names of the right form
pub nets_are_nets : (seed n : ℕ) → 1 ≤ n → n ≤ 320 → AllByRecursion IsNet (nets_pins (ends seed n))
nets_are_nets seed n low high = each_indexed (IsAmong n) IsNet pins_of (net_of_ends n high) 0 (ends seed n) (ends_among seed n low)

-- as many ends are drawn as there are nets
pub length-ends : (seed n : ℕ) → length (ends seed n) ≡ net_count n
length-ends seed n = length-map-range_with_len (ends_at seed n) 0 (net_count n)

-- there are as many lists of pins as nets
pub length-nets : (seed n : ℕ) → length (nets_pins (ends seed n)) ≡ net_count n
length-nets seed n = length-indexed pins_of 0 (ends seed n) ∙ length-ends seed n

-- at most 320 blocks have at most 1920 pins
pub few_pins : (seed n : ℕ) → n ≤ 320 → sum_by length (nets_pins (ends seed n)) ≤ 1920
few_pins seed n h = omega (arith, all_pins (ends seed n), length-ends seed n, few_nets n h)

-- each side that is drawn is positive and at most 100
small_side : (w : ℕ) → (0 < 4 + w % 29) × (4 + w % 29 ≤ 100)
small_side w = (omega arith, omega arith)

-- each size that is drawn has sides from 1 to 100
pub sizes_small : (seed n : ℕ) → AllByRecursion IsSmall (sizes seed n)
sizes_small seed n =
    each_drawn IsSmall (size_at seed)
    (λ i. let w = small_side (word seed (2 * i)) in let h = small_side (word seed (2 * i + 1)) in record { wide = w.0; high = h.0; width = w.1; height = h.1 }) n

-- as many sizes are drawn as there are blocks
pub length-sizes : (seed n : ℕ) → length (sizes seed n) ≡ n
length-sizes seed n = length-map-range_with_len (size_at seed) 0 n
