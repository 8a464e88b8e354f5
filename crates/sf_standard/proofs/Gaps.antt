-- Numbers that lie in intervals are spread at least as far as the gap between these.
use Rattle.std.proofs.Common.{ℕ, ◌+◌, ◌≤◌, max, min, List, [], ◌∷◌, arith, ◌+ℤ◌, ◌-ℤ◌, ◌≤ℤ◌}
use Rattle.sf_standard.proofs.Common.{Contains, fold, ℤ, pos, negsuc, nat_abs, AllByRecursion, ints, clamps, Shape, spread, EachPair, each-weaker, not_in_nil, Extent, Interval, extent_of, to_nat, gap, greatest_with, greatest_two, int_max, int_min, to_nat-le}
use Rattle.sf_standard.proofs.Listed.{each-contains}

-- all lie between two numbers that are the spread apart
pub record IsSpanned (zs : List ℤ) (low high : ℤ) : Type 0 where
  pub above : AllByRecursion (λ z. low ≤ℤ z) zs
  pub below : AllByRecursion (λ z. z ≤ℤ high) zs
  pub apart : (high -ℤ low) ≤ℤ pos (spread zs)

-- the greatest number is at least the one that it begins with
fold-max-above : (a : ℤ) (zs : List ℤ) → a ≤ℤ fold int_max a zs
fold-max-above a [] = omega (arith, ints)
fold-max-above a (z ∷ zs) = omega (arith, ints, clamps, fold-max-above (int_max a z) zs)

-- the least number is at most the one that it begins with
fold-min-below : (a : ℤ) (zs : List ℤ) → fold int_min a zs ≤ℤ a
fold-min-below a [] = omega (arith, ints)
fold-min-below a (z ∷ zs) = omega (arith, ints, clamps, fold-min-below (int_min a z) zs)

-- the greatest number is at least each of them
fold-max-each : (a : ℤ) (zs : List ℤ) → AllByRecursion (λ z. z ≤ℤ fold int_max a zs) zs
fold-max-each a [] = tt
fold-max-each a (z ∷ zs) = (omega (arith, ints, clamps, fold-max-above (int_max a z) zs), fold-max-each (int_max a z) zs)

-- the least number is at most each of them
fold-min-each : (a : ℤ) (zs : List ℤ) → AllByRecursion (λ z. fold int_min a zs ≤ℤ z) zs
fold-min-each a [] = tt
fold-min-each a (z ∷ zs) = (omega (arith, ints, clamps, fold-min-below (int_min a z) zs), fold-min-each (int_min a z) zs)

-- a number is at most its distance from 0
abs-above : (d : ℤ) → d ≤ℤ pos (nat_abs d)
abs-above d = omega (arith, ints)

-- any numbers lie between their least and their greatest
pub spanned : (zs : List ℤ) → (low : ℤ) × (high : ℤ) × IsSpanned zs low high
spanned [] = (pos 0, pos 0, record { above = tt; below = tt; apart = omega (arith, ints) })
spanned (z ∷ zs) =
    let low = fold int_min z zs in
    let high = fold int_max z zs in (
      low,
      high,
      record {
        above = (fold-min-below z zs, fold-min-each z zs);
        below = (fold-max-above z zs, fold-max-each z zs);
        apart = abs-above (high -ℤ low);
      },
    )

-- the greatest lower end is at least the one that it begins with
low-start : (a : ℤ) (is : List Interval) → a ≤ℤ fold (λ z j. int_max z j.low) a is
low-start a [] = omega (arith, ints)
low-start a (i ∷ is) = omega (arith, ints, clamps, low-start (int_max a i.low) is)

-- each lower end is at most the greatest of them
low-each : (a : ℤ) (is : List Interval) → AllByRecursion (λ i. i.low ≤ℤ fold (λ z j. int_max z j.low) a is) is
low-each a [] = tt
low-each a (i ∷ is) = (omega (arith, ints, clamps, low-start (int_max a i.low) is), low-each (int_max a i.low) is)

-- the least upper end is at most the one that it begins with
high-start : (a : ℤ) (is : List Interval) → fold (λ z j. int_min z j.high) a is ≤ℤ a
high-start a [] = omega (arith, ints)
high-start a (i ∷ is) = omega (arith, ints, clamps, high-start (int_min a i.high) is)

-- each upper end is at least the least of them
high-each : (a : ℤ) (is : List Interval) → AllByRecursion (λ i. fold (λ z j. int_min z j.high) a is ≤ℤ i.high) is
high-each a [] = tt
high-each a (i ∷ is) = (omega (arith, ints, clamps, high-start (int_min a i.high) is), high-each (int_min a i.high) is)

-- the same of a list that is not empty, for the lower ends
pub low-member : (i : Interval) (is : List Interval) → AllByRecursion (λ k. k.low ≤ℤ fold (λ z j. int_max z j.low) i.low is) (i ∷ is)
low-member i is = (low-start i.low is, low-each i.low is)

-- and for the upper ends
pub high-member : (i : Interval) (is : List Interval) → AllByRecursion (λ k. fold (λ z j. int_min z j.high) i.high is ≤ℤ k.high) (i ∷ is)
high-member i is = (high-start i.high is, high-each i.high is)

-- what bounds each lower end from above bounds the greatest
pub low-most : (a b : ℤ) (is : List Interval) → a ≤ℤ b → AllByRecursion (λ i. i.low ≤ℤ b) is → fold (λ z j. int_max z j.low) a is ≤ℤ b
low-most a b [] h e = h
low-most a b (i ∷ is) h e = low-most (int_max a i.low) b is (omega (arith, ints, clamps, h, e.0)) e.1

-- what bounds each upper end from below bounds the least
pub high-least : (a b : ℤ) (is : List Interval) → b ≤ℤ a → AllByRecursion (λ i. b ≤ℤ i.high) is → b ≤ℤ fold (λ z j. int_min z j.high) a is
high-least a b [] h e = h
high-least a b (i ∷ is) h e = high-least (int_min a i.high) b is (omega (arith, ints, clamps, h, e.0)) e.1

-- the interval, moved by d, holds one of the numbers
pub record Holds (d : ℤ) (zs : List ℤ) (i : Interval) : Type 0 where
  pub at : ℤ
  pub found : Contains zs at
  pub low : (i.low +ℤ d) ≤ℤ at
  pub high : at ≤ℤ (i.high +ℤ d)

-- where each interval, moved by d, holds one of the numbers, the gap is at most their spread
pub gap-le-spread : (d : ℤ) (zs : List ℤ) (is : List Interval) → AllByRecursion (Holds d zs) is → gap is ≤ spread zs
gap-le-spread d zs [] h = omega arith
gap-le-spread d zs (i ∷ is) h =
    let s = spanned zs in
    let low = s.0 in
    let high = s.1 in
    let lows = low-most i.low (high -ℤ d) is (lower s.1 s.2 i h.0) (lowers s.1 s.2 is h.1) in
    let highs = high-least i.high (low -ℤ d) is (upper s.0 s.2 i h.0) (uppers s.0 s.2 is h.1) in
    to_nat-le (fold (λ z j. int_max z j.low) i.low is -ℤ fold (λ z j. int_min z j.high) i.high is) (spread zs) (omega (arith, ints, lows, highs, s.2.apart))
  where
    lower : {low : ℤ} (high : ℤ) → IsSpanned zs low high → (i : Interval) → Holds d zs i → i.low ≤ℤ (high -ℤ d)
    lower high s i k = omega (arith, ints, k.low, each-contains (λ z. z ≤ℤ high) zs k.at s.below k.found)

    upper : {high : ℤ} (low : ℤ) → IsSpanned zs low high → (i : Interval) → Holds d zs i → (low -ℤ d) ≤ℤ i.high
    upper low s i k = omega (arith, ints, k.high, each-contains (λ z. low ≤ℤ z) zs k.at s.above k.found)

    lowers : {low : ℤ} (high : ℤ) → IsSpanned zs low high → (is : List Interval) → AllByRecursion (Holds d zs) is → AllByRecursion (λ i. i.low ≤ℤ (high -ℤ d)) is
    lowers high s [] k = tt
    lowers high s (j ∷ js) k = (lower high s j k.0, lowers high s js k.1)

    uppers : {high : ℤ} (low : ℤ) → IsSpanned zs low high → (is : List Interval) → AllByRecursion (Holds d zs) is → AllByRecursion (λ i. (low -ℤ d) ≤ℤ i.high) is
    uppers low s [] k = tt
    uppers low s (j ∷ js) k = (upper low s j k.0, uppers low s js k.1)

-- an interval of which the number is both ends or lies outside
pub record Pins (is : List Interval) (z : ℤ) : Type 0 where
  pub at : Interval
  pub found : Contains is at
  pub low : z ≤ℤ at.low
  pub high : at.high ≤ℤ z

-- what bounds each number from above bounds the greatest
max-most : (a b : ℤ) (zs : List ℤ) → a ≤ℤ b → AllByRecursion (λ z. z ≤ℤ b) zs → fold int_max a zs ≤ℤ b
max-most a b [] h e = h
max-most a b (z ∷ zs) h e = max-most (int_max a z) b zs (omega (arith, ints, clamps, h, e.0)) e.1

-- what bounds each number from below bounds the least
min-least : (a b : ℤ) (zs : List ℤ) → b ≤ℤ a → AllByRecursion (λ z. b ≤ℤ z) zs → b ≤ℤ fold int_min a zs
min-least a b [] h e = h
min-least a b (z ∷ zs) h e = min-least (int_min a z) b zs (omega (arith, ints, clamps, h, e.0)) e.1

-- two numbers inside an interval are no further apart than its ends
apart-le : (a b c d : ℤ) → b ≤ℤ a → a ≤ℤ c → d ≤ℤ b → nat_abs (a -ℤ b) ≤ to_nat (c -ℤ d)
apart-le a b c d le up down = abs-le (a -ℤ b) (c -ℤ d) (omega (arith, ints, le)) (omega (arith, ints, up, down))
  where
    abs-le : (x y : ℤ) → pos 0 ≤ℤ x → x ≤ℤ y → nat_abs x ≤ to_nat y
    abs-le x (pos n) h k = omega (arith, ints, h, k)
    abs-le x (negsuc n) h k = absurd (omega (arith, ints, h, k))

-- numbers that intervals pin down are spread no further than the gap between these
pub spread-le-gap : (zs : List ℤ) (is : List Interval) → AllByRecursion (Pins is) zs → spread zs ≤ gap is
spread-le-gap [] is h = omega arith
spread-le-gap (z ∷ zs) [] h = absurd (not_in_nil (h.0).at (h.0).found)
spread-le-gap (z ∷ zs) (i ∷ is) h =
    let low = fold (λ z j. int_max z j.low) i.low is in
    let high = fold (λ z j. int_min z j.high) i.high is in
    let under : (x : ℤ) → Pins (i ∷ is) x → x ≤ℤ low = λ x k. omega (arith, ints, k.low, each-contains (λ k. k.low ≤ℤ low) (i ∷ is) k.at (low-member i is) k.found) in
    let over : (x : ℤ) → Pins (i ∷ is) x → high ≤ℤ x = λ x k. omega (arith, ints, k.high, each-contains (λ k. high ≤ℤ k.high) (i ∷ is) k.at (high-member i is) k.found) in
    apart-le (fold int_max z zs) (fold int_min z zs) low high
    (omega (arith, ints, fold-min-below z zs, fold-max-above z zs))
    (max-most z low zs (under z h.0) (each-weaker (Pins (i ∷ is)) (λ x. x ≤ℤ low) under zs h.1))
    (min-least z high zs (over z h.0) (each-weaker (Pins (i ∷ is)) (λ x. high ≤ℤ x) over zs h.1))

-- two of the numbers are no further apart than the spread
pub apart-le-spread : (zs : List ℤ) (a b : ℤ) → Contains zs a → Contains zs b → (a -ℤ b) ≤ℤ pos (spread zs)
apart-le-spread zs a b ca cb =
    let s = spanned zs in
    omega (arith, ints, each-contains (λ z. s.0 ≤ℤ z) zs b s.2.above cb, each-contains (λ z. z ≤ℤ s.1) zs a s.2.below ca, s.2.apart)

-- what bounds the sum of each two bounds the greatest of these
greatest_with-le : (m n : ℕ) (xs : List ℕ) → AllByRecursion (λ x. n + x ≤ m) xs → greatest_with n xs ≤ m
greatest_with-le m n [] h = omega arith
greatest_with-le m n (x ∷ xs) h = omega (arith, h.0, greatest_with-le m n xs h.1)

-- what bounds the sum of each two bounds the sum of the two greatest
pub greatest_two-le : (m : ℕ) (xs : List ℕ) → EachPair (λ a b. a + b ≤ m) xs → greatest_two xs ≤ m
greatest_two-le m [] h = omega arith
greatest_two-le m (x ∷ xs) h = omega (arith, greatest_with-le m x xs h.0, greatest_two-le m xs h.1)

-- a shape of the extent
pub record IsOfExtent (e : Extent) (w h : ℕ) : Type 0 where
  pub wide : e.least_w ≤ w
  pub narrow : w ≤ e.most_w
  pub high : e.least_h ≤ h
  pub low : h ≤ e.most_h

module _ (key : Shape → ℕ) where
  -- the least side is at most the one that it begins with
  least-start : (a : ℕ) (ss : List Shape) → fold (λ n t. min n (key t)) a ss ≤ a
  least-start a [] = omega arith
  least-start a (s ∷ ss) = omega (arith, least-start (min a (key s)) ss)

  -- the least side is at most each of them
  least-each : (a : ℕ) (ss : List Shape) → AllByRecursion (λ s. fold (λ n t. min n (key t)) a ss ≤ key s) ss
  least-each a [] = tt
  least-each a (s ∷ ss) = (omega (arith, least-start (min a (key s)) ss), least-each (min a (key s)) ss)

  -- the greatest side is at least the one that it begins with
  most-start : (a : ℕ) (ss : List Shape) → a ≤ fold (λ n t. max n (key t)) a ss
  most-start a [] = omega arith
  most-start a (s ∷ ss) = omega (arith, most-start (max a (key s)) ss)

  -- the greatest side is at least each of them
  most-each : (a : ℕ) (ss : List Shape) → AllByRecursion (λ s. key s ≤ fold (λ n t. max n (key t)) a ss) ss
  most-each a [] = tt
  most-each a (s ∷ ss) = (omega (arith, most-start (max a (key s)) ss), most-each (max a (key s)) ss)

  -- the least side of a list is at most that of each shape in it
  pub least-member : (s : Shape) (ss : List Shape) (x : Shape) → Contains (s ∷ ss) x → fold (λ n t. min n (key t)) (key s) ss ≤ key x
  least-member s ss x c = each-contains (λ v. fold (λ n t. min n (key t)) (key s) ss ≤ key v) (s ∷ ss) x (least-start (key s) ss, least-each (key s) ss) c

  -- the greatest side of a list is at least that of each shape in it
  pub most-member : (s : Shape) (ss : List Shape) (x : Shape) → Contains (s ∷ ss) x → key x ≤ fold (λ n t. max n (key t)) (key s) ss
  most-member s ss x c = each-contains (λ v. key v ≤ fold (λ n t. max n (key t)) (key s) ss) (s ∷ ss) x (most-start (key s) ss, most-each (key s) ss) c

-- each shape of a list is of its extent
pub of-extent : (ss : List Shape) (x : Shape) → Contains ss x → IsOfExtent (extent_of ss) x.w x.h
of-extent [] x c = absurd (not_in_nil x c)
of-extent (s ∷ ss) x c = record {
  wide = least-member (λ t. t.w) s ss x c;
  narrow = most-member (λ t. t.w) s ss x c;
  high = least-member (λ t. t.h) s ss x c;
  low = most-member (λ t. t.h) s ss x c;
}
