-- A coordinate that is read is near.
use Rattle.std.proofs.Common.{◌≡◌, ◌==◌, ℕ, ◌≤◌, Bool, true, false, cond, List, [], ◌∷◌, length, Option, Some, None, Result, Ok, Err, refl, subst, arith, inl, inr, ◌≤ℤ◌, ◌%◌, ◌/◌, All}
use Rattle.sf_measuring.proofs.Common.{ℤ, pos, neg_ℤ, nat_lt, AllZip, nat_tests, All-nil, All-cons, GsrcPlaces, Place, ◌>>=◌, PlacesStandFor, SaysPlace, Contents, PlacesRead, HasNearPlace, ints}
use Rattle.sf_lex.specs.Scan.{Line}
use Rattle.sf_lex.specs.Number.{Decimal, decimal_of, decimal_read, signed_read, value_or_fault, exact_value, scaled, unit, value_within, with_value}
use Rattle.sf_lex.specs.declared.number.NumberFault.{NumberFault}
use Rattle.sf_lex.specs.declared.number.NumberFault.TheVariants.{TooManyDigits, NotWhole, TooLarge}
use Rattle.sf_gsrc.specs.declared.fault.LineFault.{LineFault}
use Rattle.sf_gsrc.specs.declared.fault.LineFault.TheVariants.{BadLine}
use Rattle.sf_gsrc.specs.Line.{number_in, coordinate_in_word}
use Rattle.sf_gsrc.specs.PlaceLine.{sides_said, size_in_words, spot_said, place_said}

-- a sequence that gives a value has one at its first step
bound : (A E : Type 0) → (r : Result A E) (B : Type 0) (f : A → Result B E) (y : B) → (r >>= f) ≡ Ok y → (x : A) × (r ≡ Ok x) × (f x ≡ Ok y)
bound A E (Ok x) B f y e = (x, refl, e)
bound A E (Err d) B f y e = absurd cc

-- ---- numbers

-- a value that passes the limit's test is at most the limit
within_most : (limit v n : ℕ) (over : Bool) → nat_lt limit v ≡ over → cond {A = Result ℕ NumberFault} over (Err TooLarge) (Ok v) ≡ Ok n → n ≤ limit
within_most limit v n true t e = absurd cc
within_most limit v n false t e =
    let same : v ≡ n = cc in
    let low : v ≤ limit = grind (arith, nat_tests) in
    omega arith

-- so is one that also passes the tests before it
exact_most : (limit v n : ℕ) (many whole : Bool) → cond {A = Result ℕ NumberFault} many (Err TooManyDigits) (cond whole (value_within limit v) (Err NotWhole)) ≡ Ok n → n ≤ limit
exact_most limit v n true whole e = absurd cc
exact_most limit v n false true e = within_most limit v n (nat_lt limit v) refl e
exact_most limit v n false false e = absurd cc

-- and the value of a decimal that is read
value_most : (scale limit n : ℕ) (d : Option Decimal) → value_or_fault (exact_value scale limit) d ≡ Ok n → n ≤ limit
value_most scale limit n None e = absurd cc
value_most scale limit n (Some d) e = exact_most limit (scaled scale d / unit d) n (nat_lt 6 (length d.fraction)) (scaled scale d % unit d == 0) e

-- a decimal that is read with a limit is at most that
decimal_most : (scale limit : ℕ) (word : List ℕ) (n : ℕ) → decimal_read scale limit word ≡ Ok n → n ≤ limit
unfolding decimal_read
decimal_most scale limit word n e = value_most scale limit n (decimal_of word) e

-- at most so far from 0
record IsIn (limit : ℕ) (z : ℤ) : Type 0 where
  low : neg_ℤ (pos limit) ≤ℤ z
  high : z ≤ℤ pos limit

-- a number that is mapped was read
value_of : (f : ℕ → ℤ) (r : Result ℕ NumberFault) (z : ℤ) → with_value f r ≡ Ok z → (n : ℕ) × (r ≡ Ok n) × (f n ≡ z)
value_of f (Ok n) z e = (n, refl, cc)
value_of f (Err d) z e = absurd cc

-- a number with no sign, or with a plus, is at most so far from 0
plus_in : (scale limit : ℕ) (word : List ℕ) (z : ℤ) → with_value pos (decimal_read scale limit word) ≡ Ok z → IsIn limit z
plus_in scale limit word z e =
    let v = value_of pos (decimal_read scale limit word) z e in
    let most : v.0 ≤ limit = decimal_most scale limit word v.0 v.1 in
    let at : IsIn limit (pos v.0) = record { low = omega (arith, ints); high = omega (arith, ints) } in
    subst (IsIn limit) v.2 at

-- so is one with a minus
minus_in : (scale limit : ℕ) (word : List ℕ) (z : ℤ) → with_value (λ n. neg_ℤ (pos n)) (decimal_read scale limit word) ≡ Ok z → IsIn limit z
minus_in scale limit word z e =
    let v = value_of (λ n. neg_ℤ (pos n)) (decimal_read scale limit word) z e in
    let most : v.0 ≤ limit = decimal_most scale limit word v.0 v.1 in
    let at : IsIn limit (neg_ℤ (pos v.0)) = record { low = omega (arith, ints); high = omega (arith, ints) } in
    subst (IsIn limit) v.2 at

-- so is any of the three
signed_by : (scale limit : ℕ) (b : ℕ) (digits : List ℕ) (z : ℤ) (minus plus : Bool)
    → cond minus (with_value (λ n. neg_ℤ (pos n)) (decimal_read scale limit digits)) (cond plus (with_value pos (decimal_read scale limit digits)) (with_value pos (decimal_read scale limit (b ∷ digits)))) ≡ Ok z → IsIn limit z
signed_by scale limit b digits z true plus e = minus_in scale limit digits z e
signed_by scale limit b digits z false true e = plus_in scale limit digits z e
signed_by scale limit b digits z false false e = plus_in scale limit (b ∷ digits) z e

-- and so the number that a word says
signed_in : (scale limit : ℕ) (word : List ℕ) (z : ℤ) → signed_read scale limit word ≡ Ok z → IsIn limit z
unfolding signed_read
signed_in scale limit [] z e = absurd cc
signed_in scale limit (b ∷ digits) z e = signed_by scale limit b digits z (b == 45) (b == 43) e

-- what is no fault of a line is none of its number
number_ok : (r : Result ℤ NumberFault) (z : ℤ) → number_in r ≡ Ok z → r ≡ Ok z
number_ok (Ok x) z e = cc
number_ok (Err d) z e = absurd cc

-- a coordinate is at most 9,000,000,000,000,000 away from 0
place_in : (scale : ℕ) (word : List ℕ) (z : ℤ) → coordinate_in_word scale word ≡ Ok z → IsIn 9_000_000_000_000_000 z
place_in scale word z e = signed_in scale 9_000_000_000_000_000 word z (number_ok (signed_read scale 9_000_000_000_000_000 word) z e)

-- ---- lines

-- a line that says a place
abbrev done : Place → Result Place LineFault
done p = Ok p

-- a place made of near coordinates is near
near_at : (name : List ℕ) (x y : ℤ) (size : Option (ℕ × ℕ)) (p : Place) → done (record { name = name; x = x; y = y; size = size }) ≡ done p → IsIn 9_000_000_000_000_000 x → IsIn 9_000_000_000_000_000 y → HasNearPlace p
near_at name x y size p e a b =
    let made : Place = record { name = name; x = x; y = y; size = size } in
    let is : made ≡ p = cc in
    let near : HasNearPlace made = record { left = a.low; right = a.high; lower = b.low; upper = b.high } in
    subst HasNearPlace is near

-- a line of a name and two coordinates says a near place, with a size or without
spot_near : (scale : ℕ) (name x y : List ℕ) (sides : Option (List ℕ × List ℕ)) (p : Place) → spot_said scale name x y sides ≡ Ok p → HasNearPlace p
unfolding spot_said
spot_near scale name x y sides p e =
    let a = bound ℤ LineFault (coordinate_in_word scale x) Place _ p e in
    let b = bound ℤ LineFault (coordinate_in_word scale y) Place _ p a.2 in
    let z = bound (Option (ℕ × ℕ)) LineFault (size_in_words scale sides) Place _ p b.2 in
    near_at name a.0 b.0 z.0 p z.2 (place_in scale x a.0 a.1) (place_in scale y b.0 b.1)

-- a line that has coordinates says a near place
coordinates_by : (scale : ℕ) (name x y : List ℕ) (rest : List (List ℕ)) (p : Place) (some : Bool) → cond some (sides_said rest >>= spot_said scale name x y) (Err BadLine) ≡ Ok p → HasNearPlace p
coordinates_by scale name x y rest p true e =
    let s = bound (Option (List ℕ × List ℕ)) LineFault (sides_said rest) Place _ p e in
    spot_near scale name x y s.0 p s.2
coordinates_by scale name x y rest p false e = absurd cc

-- each line that says a place says a near one
place_near : (scale : ℕ) (line : List ℕ) (p : Place) → place_said scale line ≡ Ok p → HasNearPlace p
unfolding place_said
place_near scale line p e = coordinates_by scale _ _ _ _ p _ e

-- so the places of lines are near
all_near : (scale : ℕ) (lines : List Line) (places : List Place) → AllZip (SaysPlace scale) lines places → All HasNearPlace places
all_near scale [] [] z = All-nil HasNearPlace
all_near scale [] (p ∷ ps) z = absurd z
all_near scale (l ∷ ls) [] z = absurd z
all_near scale (l ∷ ls) (p ∷ ps) z = All-cons HasNearPlace p ps (place_near scale l.bytes p z.0) (all_near scale ls ps z.1)

-- and those for which a text stands
pub stands_near : (scale : ℕ) (text : List ℕ) (out : GsrcPlaces) → PlacesStandFor scale text out → All HasNearPlace out.places
stands_near scale text out s = all_near scale s.others out.places s.each

-- the places of a file that was read
pub read_near : (held : Option Contents) (source : List ℕ) (scale : ℕ) (name : List ℕ) (out : GsrcPlaces) → PlacesRead held source scale name (Ok out) → All HasNearPlace out.places
read_near held source scale name out r = elim r [
  | inl t ↦ stands_near scale t.0 out t.2
  | inr t ↦ absurd (let e : Ok out ≡ Err t.0 = t.2 in cc)
]
