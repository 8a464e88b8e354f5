-- What intervals share, where they are appended and where all are pushed.
use Rattle.std.proofs.Common.{◌≡◌, ℕ, ◌*◌, List, [], ◌∷◌, ◌++◌, map, refl, ap, sym, ◌∙◌, arith, false, ◌≤ℤ◌, ◌+ℤ◌}
use Rattle.sf_bounds.proofs.Common.{fold, pos, neg_ℤ, int_lt, ℤ, AllByRecursion, ints, clamps, cond-false, Interval, IsFitInterval, shared, endless, pushed}

-- intervals with equal ends are equal
pub interval : (a b c d : ℤ) → a ≡ c → b ≡ d → ◌≡◌ {A = Interval} (record { low = a; high = b }) (record { low = c; high = d })
interval a b c d p q = ap (λ z. (let k : Interval = record { low = z; high = b } in k)) p ∙ ap (λ z. (let k : Interval = record { low = c; high = z } in k)) q

-- no less than what no interval narrows
abbrev IsWithin : Interval → Type 0
IsWithin i = (neg_ℤ (pos 700000000) ≤ℤ i.low) × (i.high ≤ℤ pos 700000000)

-- what is shared with an interval that is within the endless one is within it
within-shared : (i j : Interval) → IsWithin i → IsWithin (shared i j)
within-shared i j h = (omega (arith, ints, clamps, h.0), omega (arith, ints, clamps, h.1))

-- what an interval within the endless one shares with others is what it shares with their share
fold-split : (z : Interval) (ys : List Interval) → IsWithin z → fold shared z ys ≡ shared z (fold shared endless ys)
fold-split z [] h = interval _ _ _ _ (omega (arith, ints, clamps, h.0)) (omega (arith, ints, clamps, h.1))
fold-split z (y ∷ ys) h =
    let a = fold-split (shared z y) ys (within-shared z y h) in
    let b = fold-split (shared endless y) ys (within-shared endless y (omega (arith, ints), omega (arith, ints))) in
    let r = fold shared endless ys in
    a ∙ interval _ _ _ _ (omega (arith, ints, clamps, h.0)) (omega (arith, ints, clamps, h.1)) ∙ ap (shared z) (sym b)

-- the share along two lists together is the share along the second, begun with that along the first
fold-append : (z : Interval) (xs ys : List Interval) → fold shared z (xs ++ ys) ≡ fold shared (fold shared z xs) ys
fold-append z [] ys = refl
fold-append z (x ∷ xs) ys = fold-append (shared z x) xs ys

-- the share along intervals, begun with one within the endless one, is within it
fold-within : (z : Interval) (xs : List Interval) → IsWithin z → IsWithin (fold shared z xs)
fold-within z [] h = h
fold-within z (x ∷ xs) h = fold-within (shared z x) xs (within-shared z x h)

-- what both lists share
pub share-append : (xs ys : List Interval) → fold shared endless (xs ++ ys) ≡ shared (fold shared endless xs) (fold shared endless ys)
share-append xs ys = fold-append endless xs ys ∙ fold-split (fold shared endless xs) ys (fold-within endless xs (omega (arith, ints), omega (arith, ints)))

-- ends that no item's place makes less than 0
pub record IsHome (i : Interval) : Type 0 where
  pub low : pos 0 ≤ℤ i.low
  pub low_small : i.low ≤ℤ pos 700000000
  pub high : pos 0 ≤ℤ i.high
  pub high_small : i.high ≤ℤ pos 700000000

-- an interval of a home is near
pub home-near : (i : Interval) → IsHome i → IsFitInterval i
home-near i h = ((omega (arith, ints, h.low), h.low_small), (omega (arith, ints, h.high), h.high_small))

-- the interval with its lower end moved by 2 a and its upper one by 2 b
abbrev pub moved : ℕ → ℕ → Interval → Interval
moved a b i = record { low = i.low +ℤ pos (2 * a); high = i.high +ℤ pos (2 * b) }

-- an interval of a home is not narrowed by the endless one
pub first-home : (i : Interval) → IsHome i → shared endless i ≡ i
first-home i h = interval _ _ _ _ (omega (arith, ints, clamps, h.low)) (omega (arith, ints, clamps, h.high_small))

-- the share of moved intervals is the share moved
fold-moved : (a b : ℕ) (i : Interval) (is : List Interval) → fold shared (moved a b i) (map (moved a b) is) ≡ moved a b (fold shared i is)
fold-moved a b i [] = refl
fold-moved a b i (j ∷ js) =
    ap (λ v. fold shared v (map (moved a b) js)) (interval _ _ _ _ (omega (arith, ints, clamps)) (omega (arith, ints, clamps)))
    ∙ fold-moved a b (shared i j) js

-- the lower end of a share is at least 0 where that of the first interval is
fold-low : (i : Interval) (is : List Interval) → pos 0 ≤ℤ i.low → pos 0 ≤ℤ (fold shared i is).low
fold-low i [] h = h
fold-low i (j ∷ js) h = fold-low (shared i j) js (omega (arith, ints, clamps, h))

-- a number of at least 0 is not less than 0
not-negative : (z : ℤ) → pos 0 ≤ℤ z → int_lt z (pos 0) ≡ false
not-negative z h = grind (arith, ints, h)

-- all are pushed by the same
pub share-moved : (a b : ℕ) (is : List Interval) → AllByRecursion IsHome is → AllByRecursion IsHome (map (moved a b) is) → fold shared endless (map (moved a b) is) ≡ pushed a b (fold shared endless is)
share-moved a b [] h k = refl
share-moved a b (i ∷ is) h k =
    let all = fold shared i is in
    ap (λ v. fold shared v (map (moved a b) is)) (first-home (moved a b i) k.0)
    ∙ fold-moved a b i is
    ∙ sym (cond-false (int_lt all.low (pos 0)) all (moved a b all) (not-negative all.low (fold-low i is h.0.low)))
    ∙ ap (λ v. pushed a b (fold shared v is)) (sym (first-home i h.0))

-- what two near intervals share is near
near-shared : (i j : Interval) → IsFitInterval i → IsFitInterval j → IsFitInterval (shared i j)
near-shared i j h k = (
  (omega (arith, ints, clamps, h.0.0, k.0.0), omega (arith, ints, clamps, h.0.1, k.0.1)),
  (omega (arith, ints, clamps, h.1.0, k.1.0), omega (arith, ints, clamps, h.1.1, k.1.1)),
)

-- what near ones share is near
pub near-share : (z : Interval) (is : List Interval) → IsFitInterval z → AllByRecursion IsFitInterval is → IsFitInterval (fold shared z is)
near-share z [] h k = h
near-share z (i ∷ is) h k = near-share (shared z i) is (near-shared z i h k.0) k.1
