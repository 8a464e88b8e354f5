-- What intervals share tells their gap, whatever their order.
use Rattle.std.proofs.Common.{◌≡◌, List, [], ◌∷◌, arith, refl, ap, ◌∙◌, ◌≤ℤ◌, ◌-ℤ◌}
use Rattle.sf_nets.proofs.Common.{Contains, fold, ℤ, pos, neg_ℤ, AllByRecursion, ints, clamps, not_in_nil, Contains-head, Contains-tail, Interval, to_nat, gap, each-contains, each-from, IsFitEnd, IsFitInterval, shared, endless}
use Rattle.std.specs.Int.{int_max, int_min}
use Rattle.sf_standard.proofs.Gaps.{low-member, high-member, low-most, high-least}

-- the lower end of what intervals share is the greatest of their lower ends
fold-low : (i : Interval) (is : List Interval) → (fold shared i is).low ≡ fold (λ z j. int_max z j.low) i.low is
fold-low i [] = refl
fold-low i (j ∷ js) = fold-low (shared i j) js

-- the upper end of what intervals share is the least of their upper ends
fold-high : (i : Interval) (is : List Interval) → (fold shared i is).high ≡ fold (λ z j. int_min z j.high) i.high is
fold-high i [] = refl
fold-high i (j ∷ js) = fold-high (shared i j) js

-- a number that fits is not below the least one
max-first : (z : ℤ) → IsFitEnd z → int_max (neg_ℤ (pos 700000000)) z ≡ z
max-first z h = omega (arith, ints, clamps, h.0)

-- a number that fits is not above the greatest one
min-first : (z : ℤ) → IsFitEnd z → int_min (pos 700000000) z ≡ z
min-first z h = omega (arith, ints, clamps, h.1)

-- an interval whose ends fit is not narrowed by the endless one
endless-first : (i : Interval) → IsFitInterval i → shared endless i ≡ i
endless-first i h =
    ap (λ z. (let k : Interval = record { low = z; high = int_min (pos 700000000) i.high } in k)) (max-first i.low h.0)
    ∙ ap (λ z. (let k : Interval = record { low = i.low; high = z } in k)) (min-first i.high h.1)

-- how far the ends of what intervals share have passed each other is their gap
pub gap-shared : (is : List Interval) → AllByRecursion IsFitInterval is → to_nat ((fold shared endless is).low -ℤ (fold shared endless is).high) ≡ gap is
gap-shared [] h = refl
gap-shared (i ∷ is) h =
    ap (λ v. to_nat ((fold shared v is).low -ℤ (fold shared v is).high)) (endless-first i h.0)
    ∙ ap (λ z. to_nat (z -ℤ (fold shared i is).high)) (fold-low i is)
    ∙ ap (λ z. to_nat (fold (λ z j. int_max z j.low) i.low is -ℤ z)) (fold-high i is)

-- the greatest lower end of some of the intervals
lows-le : (i j : Interval) (is js : List Interval) → ((z : Interval) → Contains (i ∷ is) z → Contains (j ∷ js) z) → fold (λ z j. int_max z j.low) i.low is ≤ℤ fold (λ z j. int_max z j.low) j.low js
lows-le i j is js sub =
    let b = fold (λ z j. int_max z j.low) j.low js in
    let each : AllByRecursion (λ k. k.low ≤ℤ b) (j ∷ js) = low-member j js in
    let under : (z : Interval) → Contains (i ∷ is) z → z.low ≤ℤ b = λ z c. each-contains (λ k. k.low ≤ℤ b) (j ∷ js) z each (sub z c) in
    low-most i.low b is (under i (Contains-head i is)) (each-from (λ k. k.low ≤ℤ b) is (λ z c. under z (Contains-tail i is z c)))

-- the least upper end of more intervals is not greater
highs-le : (i j : Interval) (is js : List Interval) → ((z : Interval) → Contains (i ∷ is) z → Contains (j ∷ js) z) → fold (λ z j. int_min z j.high) j.high js ≤ℤ fold (λ z j. int_min z j.high) i.high is
highs-le i j is js sub =
    let b = fold (λ z j. int_min z j.high) j.high js in
    let each : AllByRecursion (λ k. b ≤ℤ k.high) (j ∷ js) = high-member j js in
    let over : (z : Interval) → Contains (i ∷ is) z → b ≤ℤ z.high = λ z c. each-contains (λ k. b ≤ℤ k.high) (j ∷ js) z each (sub z c) in
    high-least i.high b is (over i (Contains-head i is)) (each-from (λ k. b ≤ℤ k.high) is (λ z c. over z (Contains-tail i is z c)))

-- integers that are at most each other are equal
same-order : (a b : ℤ) → a ≤ℤ b → b ≤ℤ a → a ≡ b
same-order a b h k = omega (arith, ints, h, k)

-- the order of the intervals, and how often each stands there, do not matter
pub gap-same : (is js : List Interval) → ((z : Interval) → Contains is z → Contains js z) → ((z : Interval) → Contains js z → Contains is z) → gap is ≡ gap js
gap-same [] [] f g = refl
gap-same [] (j ∷ js) f g = absurd (not_in_nil j (g j (Contains-head j js)))
gap-same (i ∷ is) [] f g = absurd (not_in_nil i (f i (Contains-head i is)))
gap-same (i ∷ is) (j ∷ js) f g =
    let low = same-order (fold (λ z j. int_max z j.low) i.low is) (fold (λ z j. int_max z j.low) j.low js) (lows-le i j is js f) (lows-le j i js is g) in
    let high = same-order (fold (λ z j. int_min z j.high) i.high is) (fold (λ z j. int_min z j.high) j.high js) (highs-le j i js is g) (highs-le i j is js f) in
    ap (λ z. to_nat (z -ℤ fold (λ z j. int_min z j.high) i.high is)) low
    ∙ ap (λ z. to_nat (fold (λ z j. int_max z j.low) j.low js -ℤ z)) high
