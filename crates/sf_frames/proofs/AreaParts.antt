-- The sums of the least areas of some curves, and their greatest least sides.
use Rattle.std.proofs.Common.{◌≡◌, ◌≢◌, ℕ, ◌+◌, ◌*◌, ◌<◌, ◌≤◌, List, [], ◌∷◌, ◌++◌, length, get_or, take, map, max, sym, ap, ◌∙◌, subst, arith}
use Rattle.sf_frames.proofs.Common.{All, sum_by, mul-le-mul, map_more, get_or_default, sum_by-append, All-more, take_more, Shape, area_of, greatest, least_by, width_of, height_of, IsLeastOf, AllSmall, Least}
use Rattle.sf_frames.proofs.Leasts.{least_small, least_width_small, least_height_small}

-- the greatest number with one more is the greater of both
greatest_push : (xs : List ℕ) (x : ℕ) → greatest (xs ++ x ∷ []) ≡ max (greatest xs) x
greatest_push [] x = omega arith
greatest_push (y ∷ ys) x = omega (arith, greatest_push ys x)

-- the sums and the greatest values over the first curves
pub record IsSummed (curves : List (List Shape)) (i sum w h : ℕ) : Type 0 where
  pub some : All (λ c. c ≢ []) (take i curves)
  pub total : sum ≡ sum_by (least_by area_of) (take i curves)
  pub width : w ≡ greatest (map (least_by width_of) (take i curves))
  pub height : h ≡ greatest (map (least_by height_of) (take i curves))
  pub bound : sum ≤ i * 1099511627776
  pub narrow : w ≤ 1048576
  pub flat : h ≤ 1048576

-- with one curve more, its least area is added, and its least sides are taken into the greatest
pub summed_more : (curves : List (List Shape)) (i sum w h : ℕ) (l : Least) → All AllSmall curves → i < length curves → IsSummed curves i sum w h → IsLeastOf (get_or curves i []) l → IsSummed curves (i + 1) (sum + l.area) (max l.w w) (max l.h h)
summed_more curves i sum w h l small lt m is =
    let c = get_or curves i [] in
    let e = take_more curves i [] lt in
    record {
      some = All-more (λ v. v ≢ []) curves i [] lt m.some is.some;
      total = omega (arith, m.total, is.area, ap (sum_by (least_by area_of)) e, sum_by-append (least_by area_of) (take i curves) (c ∷ []));
      width = omega (arith, m.width, is.width, ap greatest (map_more (least_by width_of) curves i [] lt), greatest_push (map (least_by width_of) (take i curves)) (least_by width_of c));
      height = omega (arith, m.height, is.height, ap greatest (map_more (least_by height_of) curves i [] lt), greatest_push (map (least_by height_of) (take i curves)) (least_by height_of c));
      bound = omega (arith, m.bound, is.area, least_small c (small i [] lt) is.some);
      narrow = omega (arith, m.narrow, is.width, least_width_small c (small i [] lt) is.some);
      flat = omega (arith, m.flat, is.height, least_height_small c (small i [] lt) is.some);
    }

-- the same at the loop's own names
pub summed_item : (curves : List (List Shape)) (i sum w h w' h' : ℕ) (l : Least) (item : List Shape) → All AllSmall curves → i < length curves → IsSummed curves i sum w h → item ≡ get_or curves i item → IsLeastOf item l → w' ≡ max l.w w → h' ≡ max l.h h → IsSummed curves (i + 1) (sum + l.area) w' h'
summed_item curves i sum w h w' h' l item small lt m read is width height =
    let e : item ≡ get_or curves i [] = read ∙ get_or_default curves i item [] lt in
    subst (λ v. IsSummed curves (i + 1) (sum + l.area) v h') (sym width)
    (subst (IsSummed curves (i + 1) (sum + l.area) (max l.w w)) (sym height)
    (summed_more curves i sum w h l small lt m (subst (λ v. IsLeastOf v l) e is)))

-- the least area of a curve is at most 2^40
pub item_area_small : (curves : List (List Shape)) (i : ℕ) (l : Least) (item : List Shape) → All AllSmall curves → i < length curves → item ≡ get_or curves i item → IsLeastOf item l → l.area ≤ 1099511627776
item_area_small curves i l item small lt read is =
    omega (arith, is.area, least_small item (subst AllSmall (sym read) (small i item lt)) is.some)

-- sides of at most 2^20 have an area of at most 2^40
pub product_small : (w h : ℕ) → w ≤ 1048576 → h ≤ 1048576 → w * h ≤ 1099511627776
product_small w h a b = omega (arith, mul-le-mul a b)
