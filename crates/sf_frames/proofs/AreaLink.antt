-- What the code sums over curves is the definition's area part.
use Rattle.std.proofs.Common.{◌≡◌, ℕ, ◌*◌, ◌≤◌, List, [], ◌∷◌, ◌++◌, map, reverse, max, refl, ap, ◌∙◌, arith}
use Rattle.sf_frames.proofs.Common.{sum, sum_by, AllZip, mul-le-mul, reverse-append, map-append, sum_by-append, sum_by-cons, sum-map, Design, Shape, Tree, width, height, Parts, IsNoLarger, area_of, Item, items_of, unused, fitting, area, least_of, greatest, needed_area, size_of, AreItemCurves, AreGroupCurves, IsItemCurve, least_by, width_of, height_of, sum_by-map, IsAreaPart}
use Rattle.sf_frames.proofs.ItemLeasts.{least-item}

-- a sum is the same over the list reversed
sum-reverse : {X : Type 0} (f : X → ℕ) (xs : List X) → sum_by f (reverse xs) ≡ sum_by f xs
sum-reverse f [] = refl
sum-reverse f (x ∷ xs) =
    omega (arith, ap (sum_by f) (reverse-append (x ∷ []) xs), sum_by-append f (reverse xs) (x ∷ []), sum_by-cons f x xs, sum-reverse f xs)

-- the greatest number of two lists together is the greater of their greatest
greatest-append : (xs ys : List ℕ) → greatest (xs ++ ys) ≡ max (greatest xs) (greatest ys)
greatest-append [] ys = omega arith
greatest-append (x ∷ xs) ys = omega (arith, greatest-append xs ys)

-- the greatest of what a function gives is the same over the list reversed
greatest-reverse : {X : Type 0} (f : X → ℕ) (xs : List X) → greatest (map f (reverse xs)) ≡ greatest (map f xs)
greatest-reverse f [] = refl
greatest-reverse f (x ∷ xs) =
    omega (arith, ap (λ v. greatest (map f v)) (reverse-append (x ∷ []) xs), ap greatest (map-append f (reverse xs) (x ∷ [])), greatest-append (map f (reverse xs)) (f x ∷ []), greatest-reverse f xs)

module _ (design : Design) (node : Parts) where
  -- the sum of the least values on the curves is that of the least values of the items' plans that fit
  sum-zip : (f : Shape → ℕ) → ((p q : Shape) → IsNoLarger p q → f p ≤ f q) → (cs : List (List Shape)) (is : List Item) → AllZip (IsItemCurve design node) cs is → sum_by (least_by f) cs ≡ sum_by (λ i. least_of (λ t. f (size_of t)) (fitting design node i)) is
  sum-zip f grows [] [] h = refl
  sum-zip f grows [] (i ∷ is) h = elim h [ ]
  sum-zip f grows (c ∷ cs) [] h = elim h [ ]
  sum-zip f grows (c ∷ cs) (i ∷ is) h =
      omega (arith, sum_by-cons (least_by f) c cs, sum_by-cons (λ i. least_of (λ t. f (size_of t)) (fitting design node i)) i is, least-item f grows design node c i h.0, sum-zip f grows cs is h.1)

  -- the greatest of the least values on the curves is that of the least values of the items' plans that fit
  greatest-zip : (f : Shape → ℕ) → ((p q : Shape) → IsNoLarger p q → f p ≤ f q) → (cs : List (List Shape)) (is : List Item) → AllZip (IsItemCurve design node) cs is → greatest (map (least_by f) cs) ≡ greatest (map (least_of (λ t. f (size_of t))) (map (fitting design node) is))
  greatest-zip f grows [] [] h = refl
  greatest-zip f grows [] (i ∷ is) h = elim h [ ]
  greatest-zip f grows (c ∷ cs) [] h = elim h [ ]
  greatest-zip f grows (c ∷ cs) (i ∷ is) h =
      let first = least-item f grows design node c i h.0 in
      let rest = greatest-zip f grows cs is h.1 in
      omega (arith, first, rest)

  -- the greatest least side over all groups is the same by the curves as by the plans
  side : (f : Shape → ℕ) → ((p q : Shape) → IsNoLarger p q → f p ≤ f q) → (front others : List (List Shape)) → AreItemCurves design node front → AllZip (IsItemCurve design node) others (unused node) → greatest (map (least_by f) (front ++ others)) ≡ greatest (map (least_of (λ t. f (size_of t))) (map (fitting design node) (items_of node ++ unused node)))
  side f grows front others a b =
      let g : List Tree → ℕ = least_of (λ t. f (size_of t)) in
      omega (
        arith,
        ap greatest (map-append (least_by f) front others),
        greatest-append (map (least_by f) front) (map (least_by f) others),
        greatest-reverse (least_by f) front,
        greatest-zip f grows (reverse front) (items_of node) a,
        greatest-zip f grows others (unused node) b,
        ap (λ v. greatest (map g v)) (map-append (fitting design node) (items_of node) (unused node)),
        ap greatest (map-append g (map (fitting design node) (items_of node)) (map (fitting design node) (unused node))),
        greatest-append (map g (map (fitting design node) (items_of node))) (map g (map (fitting design node) (unused node))),
      )

  -- the area part
  pub area-link : (curves : List (List Shape)) (a : ℕ) → AreGroupCurves design node curves → IsAreaPart curves a → a ≡ needed_area (map (fitting design node) (items_of node ++ unused node))
  area-link curves a g part =
      let groups = items_of node ++ unused node in
      let plans = map (fitting design node) groups in
      let front = g.0 in
      let others = g.1 in
      let total : sum_by (least_by area_of) curves ≡ sum (map (least_of area) plans) =
      omega (
        arith,
        ap (sum_by (least_by area_of)) g.2,
        sum_by-append (least_by area_of) front others,
        sum-reverse (least_by area_of) front,
        sum-zip area_of (λ p q h. mul-le-mul h.0 h.1) (reverse front) (items_of node) g.3,
        sum-zip area_of (λ p q h. mul-le-mul h.0 h.1) others (unused node) g.4,
        sum_by-append (λ i. least_of area (fitting design node i)) (items_of node) (unused node),
        sum-map (least_of area) plans,
        sum_by-map (least_of area) (fitting design node) groups,
      ) in
      let wide : greatest (map (least_by width_of) curves) ≡ greatest (map (least_of width) plans) = ap (λ v. greatest (map (least_by width_of) v)) g.2 ∙ side width_of (λ p q h. h.0) front others g.3 g.4 in
      let high : greatest (map (least_by height_of) curves) ≡ greatest (map (least_of height) plans) = ap (λ v. greatest (map (least_by height_of) v)) g.2 ∙ side height_of (λ p q h. h.1) front others g.3 g.4 in
      part.value ∙ ap (λ v. max v (greatest (map (least_by width_of) curves) * greatest (map (least_by height_of) curves))) total
      ∙ ap (λ v. max (sum (map (least_of area) plans)) (v * greatest (map (least_by height_of) curves))) wide
      ∙ ap (λ v. max (sum (map (least_of area) plans)) (greatest (map (least_of width) plans) * v)) high
