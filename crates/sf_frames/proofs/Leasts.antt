-- The least values of a curve.
use Rattle.std.proofs.Common.{◌≡◌, ◌≢◌, ℕ, zero, suc, ◌-◌, ◌<◌, ◌≤◌, inl, inr, List, [], ◌∷◌, length, get_or, refl, sym, ap, ◌∙◌, subst, arith}
use Rattle.sf_frames.proofs.Common.{All, AllPairs, Contains, mul-le-mul, get_or_default, cases_lt, Contains-get_or, Shape, IsSlimmer, IsLeastArea, IsWithin, IsNoLarger, IsCurveOf, area_of, not_in_nil, Contains-cons_cases, All-head, All-tail, least_by, width_of, height_of, IsLeastOf, AllSmall, MAX, Outline}

-- the least value is at most that of each point
pub least_by-le : (f : Shape → ℕ) (xs : List Shape) (x : Shape) → Contains xs x → least_by f xs ≤ f x
least_by-le f [] x c = absurd (not_in_nil x c)
least_by-le f (y ∷ xs) x c =
    elim (Contains-cons_cases y xs x c) [
      | inl e ↦ (let s : f y ≡ f x = ap f e in omega (arith, s))
      | inr d ↦ omega (arith, least_by-le f xs x d)
    ]

-- a number that is at most the value of each point is at most the least value
pub least_by-greatest : (f : Shape → ℕ) (m : ℕ) (xs : List Shape) → m ≤ MAX → All (λ x. m ≤ f x) xs → m ≤ least_by f xs
least_by-greatest f m [] le h = le
least_by-greatest f m (x ∷ xs) le h =
    omega (arith, All-head (λ z. m ≤ f z) x xs h, least_by-greatest f m xs le (All-tail (λ z. m ≤ f z) x xs h))

-- the least value is at most MAX
pub least_by-most : (f : Shape → ℕ) (xs : List Shape) → least_by f xs ≤ MAX
least_by-most f [] = omega arith
least_by-most f (x ∷ xs) = omega (arith, least_by-most f xs)

-- the least value over a curve is that over all sizes, for a value that grows with the size
pub least_by-curve : (f : Shape → ℕ) → ((p q : Shape) → IsNoLarger p q → f p ≤ f q) → (o : Outline) (xs points : List Shape) → All (IsWithin o) xs → IsCurveOf o xs points → least_by f points ≡ least_by f xs
least_by-curve f grows o xs points within c =
    let down : least_by f points ≤ least_by f xs = least_by-greatest f (least_by f points) xs (least_by-most f points) (λ k d lt.
    let a = c.covers k d lt (within k d lt) in
    omega (arith, grows a.1 (get_or xs k d) a.4, least_by-le f points a.1 (a.0, a.2, a.3))) in
    let up : least_by f xs ≤ least_by f points = least_by-greatest f (least_by f xs) points (least_by-most f xs) (λ k d lt.
    least_by-le f xs (get_or points k d) (c.traced k d lt)) in
    omega (arith, down, up)

-- an element that is no greater than the others has the least value
pub least_by-is : (f : Shape → ℕ) (points : List Shape) (p : Shape) → Contains points p → f p ≤ MAX → All (λ q. f p ≤ f q) points → least_by f points ≡ f p
least_by-is f points p c small le =
    omega (arith, least_by-le f points p c, least_by-greatest f (f p) points small le)

-- the point of least area has the least area
pub least_area_is : (points : List Shape) (p : Shape) → IsLeastArea points p → area_of p ≤ MAX → area_of p ≡ least_by area_of points
least_area_is points p h small =
    sym (least_by-is area_of points p h.found small (λ k d lt. elim (h.least k d lt) [ inl e ↦ omega (arith, e) | inr e ↦ omega (arith, e.0) ]))

-- the first point is the narrowest
pub first_narrowest : (points : List Shape) (d : Shape) → 0 < length points → AllPairs IsSlimmer points → (get_or points 0 d).w ≤ MAX → (get_or points 0 d).w ≡ least_by width_of points
first_narrowest points d some falls small =
    sym (least_by-is width_of points (get_or points 0 d) (Contains-get_or points 0 d some) small (λ k e lt. at_place k e lt))
  where
    at_place : (k : ℕ) (e : Shape) → k < length points → (get_or points 0 d).w ≤ (get_or points k e).w
    at_place zero e lt = omega (arith, ap (λ v. v.w) (get_or_default points 0 d e some))
    at_place (suc k) e lt = omega (arith, (falls 0 (suc k) e (omega arith) lt).0, ap (λ v. v.w) (get_or_default points 0 d e some))

-- the last point is the lowest
pub last_lowest : (points : List Shape) (d : Shape) → 0 < length points → AllPairs IsSlimmer points → (get_or points (length points - 1) d).h ≤ MAX → (get_or points (length points - 1) d).h ≡ least_by height_of points
last_lowest points d some falls small =
    sym (least_by-is height_of points (get_or points (length points - 1) d) (Contains-get_or points (length points - 1) d (omega arith)) small (λ k e lt.
    elim (cases_lt k (length points - 1)) [
      | inl before ↦ omega (arith, (falls k (length points - 1) e before (omega arith)).1, ap (λ v. v.h) (get_or_default points (length points - 1) d e (omega arith)))
      | inr at_end ↦ (let same : k ≡ length points - 1 = omega (arith, at_end, lt) in
          omega (arith, ap (λ v. v.h) (ap (λ i. get_or points i e) same), ap (λ v. v.h) (get_or_default points (length points - 1) d e (omega arith))))
    ]))

-- the least area of a curve of small sides is at most 2^40
pub least_small : (points : List Shape) → AllSmall points → points ≢ [] → least_by area_of points ≤ 1099511627776
least_small [] small some = absurd (some refl)
least_small (p ∷ ps) small some =
    omega (arith, least_by-le area_of (p ∷ ps) p (0, omega arith, refl), mul-le-mul (small 0 p (omega arith)).0 (small 0 p (omega arith)).1)

-- the least width of a curve of small sides is at most 2^20
pub least_width_small : (points : List Shape) → AllSmall points → points ≢ [] → least_by width_of points ≤ 1048576
least_width_small [] small some = absurd (some refl)
least_width_small (p ∷ ps) small some = omega (arith, least_by-le width_of (p ∷ ps) p (0, omega arith, refl), (small 0 p (omega arith)).0)

-- the least height of a curve of small sides is at most 2^20
pub least_height_small : (points : List Shape) → AllSmall points → points ≢ [] → least_by height_of points ≤ 1048576
least_height_small [] small some = absurd (some refl)
least_height_small (p ∷ ps) small some = omega (arith, least_by-le height_of (p ∷ ps) p (0, omega arith, refl), (small 0 p (omega arith)).1)

-- the area of the least point, the width of the first and the height of the last are the least values of a curve
pub least_of_is : (points read : List Shape) (p : Shape) (a : ℕ) → read ≡ points → AllPairs IsSlimmer points → AllSmall points → IsLeastArea points p → a ≡ area_of p → a ≤ MAX → IsLeastOf points record { area = a; w = (get_or {A = Shape} read 0 record { w = 0; h = 0 }).w; h = (get_or {A = Shape} read (length read - 1) record { w = 0; h = 0 }).h }
least_of_is points read p a same falls small least is small_a =
    let some : points ≢ [] = λ e. not_in_nil p (subst (λ v. Contains v p) e least.found) in
    let first = small 0 (record { w = 0; h = 0 }) (not_nil points some) in
    let last = small (length points - 1) (record { w = 0; h = 0 }) (omega (arith, not_nil points some)) in
    subst (λ (v : List Shape). IsLeastOf points record { area = a; w = (get_or {A = Shape} v 0 record { w = 0; h = 0 }).w; h = (get_or {A = Shape} v (length v - 1) record { w = 0; h = 0 }).h }) (sym same) record {
      some = some;
      area = is ∙ least_area_is points p least (omega (arith, is, small_a));
      width = first_narrowest points (record { w = 0; h = 0 }) (not_nil points some) falls (omega (arith, first.0));
      height = last_lowest points (record { w = 0; h = 0 }) (not_nil points some) falls (omega (arith, last.1));
    }
  where
    not_nil : (xs : List Shape) → xs ≢ [] → 0 < length xs
    not_nil [] h = absurd (h refl)
    not_nil (x ∷ xs) h = omega arith
