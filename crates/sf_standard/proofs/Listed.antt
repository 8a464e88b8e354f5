-- Facts on members and sums of lists.
use Rattle.std.proofs.Common.{◌≡◌, ℕ, suc, ◌+◌, ◌<◌, ◌≤◌, List, [], ◌∷◌, ◌++◌, map, arith, refl, ap, sym, subst, ◌∙◌, ◌⊎◌, inl, inr, Bool, true, cond, AllPairs}
use Rattle.sf_standard.proofs.Common.{Contains, sum_by, filter, count_by, AllByRecursion, flat_map, cond_both, cond-true, sum_by-cons, Contains-append_cases, Contains-append_left, Contains-append_right, each-append, each-weaker, each-map, EachPair, Contains-cons_cases, Contains-head, Contains-tail, not_in_nil}

-- what holds of each element holds of one that stands in the list
pub each-contains : {X : Type 0} (P : X → Type 0) (xs : List X) (x : X) → AllByRecursion P xs → Contains xs x → P x
each-contains P [] x a c = absurd (not_in_nil x c)
each-contains P (y ∷ xs) x a c =
    elim (Contains-cons_cases y xs x c) [ inl e ↦ subst P e a.0 | inr d ↦ each-contains P xs x a.1 d ]

-- what holds of all that stands in the list holds of each element
pub each-from : {X : Type 0} (P : X → Type 0) (xs : List X) → ((x : X) → Contains xs x → P x) → AllByRecursion P xs
each-from P [] f = tt
each-from P (x ∷ xs) f = (f x (Contains-head x xs), each-from P xs (λ y c. f y (Contains-tail x xs y c)))

-- what holds of each element of one list, and of what f makes of each element of another, holds of all these
pub each-joined : {X : Type 0} (P Q R : X → Type 0) (f : X → X) (xs ys : List X) → ((x : X) → Q x → P x) → ((y : X) → R y → P (f y)) → AllByRecursion Q xs → AllByRecursion R ys → AllByRecursion P (xs ++ map f ys)
each-joined P Q R f xs ys stays moves q r =
    each-append P xs (map f ys) (each-weaker Q P stays xs q) (each-map P f ys (each-weaker R (λ y. P (f y)) moves ys r))

-- the image of an element is among the images
pub Contains-map : {X Y : Type 0} (f : X → Y) (xs : List X) (x : X) → Contains xs x → Contains (map f xs) (f x)
Contains-map f [] x c = absurd (not_in_nil x c)
Contains-map f (y ∷ xs) x c =
    elim (Contains-cons_cases y xs x c) [
      | inl e ↦ subst (λ v. Contains (f y ∷ map f xs) (f v)) e (Contains-head (f y) (map f xs))
      | inr d ↦ Contains-tail (f y) (map f xs) (f x) (Contains-map f xs x d)
    ]

-- each image is that of some element
pub Contains-from_map : {X Y : Type 0} (f : X → Y) (xs : List X) (y : Y) → Contains (map f xs) y → (x : X) × Contains xs x × (f x ≡ y)
Contains-from_map f [] y c = absurd (not_in_nil y c)
Contains-from_map f (x ∷ xs) y c =
    elim (Contains-cons_cases (f x) (map f xs) y c) [
      | inl e ↦ (x, Contains-head x xs, e)
      | inr d ↦ (let k = Contains-from_map f xs y d in (k.0, Contains-tail x xs k.0 k.1, k.2))
    ]

-- an element that passes the test is among those that do
pub Contains-filter : {X : Type 0} (test : X → Bool) (xs : List X) (x : X) → Contains xs x → test x ≡ true → Contains (filter test xs) x
Contains-filter test [] x c passes = absurd (not_in_nil x c)
Contains-filter test (y ∷ xs) x c passes =
    elim (Contains-cons_cases y xs x c) [
      | inl e ↦ subst (λ v. Contains v x) (sym (cond-true (test y) (y ∷ filter test xs) (filter test xs) (ap test e ∙ passes))) (subst (Contains (y ∷ filter test xs)) e (Contains-head y (filter test xs)))
      | inr d ↦ (let k = Contains-filter test xs x d passes in
          cond_both (test y) (y ∷ filter test xs) (filter test xs) (λ v. Contains v x) (λ _. Contains-tail y (filter test xs) x k) (λ _. k))
    ]

-- what is among those that pass is an element that passes
pub Contains-from_filter : {X : Type 0} (test : X → Bool) (xs : List X) (x : X) → Contains (filter test xs) x → Contains xs x × (test x ≡ true)
Contains-from_filter test [] x c = absurd (not_in_nil x c)
Contains-from_filter test (y ∷ xs) x c =
    cond_both (test y) (y ∷ filter test xs) (filter test xs) (λ v. Contains v x → Contains (y ∷ xs) x × (test x ≡ true))
    (λ is d. elim (Contains-cons_cases y (filter test xs) x d) [
      | inl e ↦ (subst (Contains (y ∷ xs)) e (Contains-head y xs), sym (ap test e) ∙ is)
      | inr k ↦ (let r = Contains-from_filter test xs x k in (Contains-tail y xs x r.0, r.1))
    ])
    (λ is d. let r = Contains-from_filter test xs x d in (Contains-tail y xs x r.0, r.1)) c

-- two elements make a pair among the pairs
pub Contains-pairs : {X Y Z : Type 0} (f : X → Y → Z) (xs : List X) (ys : List Y) (x : X) (y : Y) → Contains xs x → Contains ys y → Contains (flat_map (λ v. map (f v) ys) xs) (f x y)
Contains-pairs f [] ys x y cx cy = absurd (not_in_nil x cx)
Contains-pairs f (v ∷ xs) ys x y cx cy =
    let rest = flat_map (λ u. map (f u) ys) xs in
    elim (Contains-cons_cases v xs x cx) [
      | inl e ↦ Contains-append_left (map (f v) ys) rest (f x y) (subst (λ u. Contains (map (f u) ys) (f x y)) (sym e) (Contains-map (f x) ys y cy))
      | inr d ↦ Contains-append_right (map (f v) ys) rest (f x y) (Contains-pairs f xs ys x y d cy)
    ]

-- each pair is made of two elements
pub Contains-from_pairs : {X Y Z : Type 0} (f : X → Y → Z) (xs : List X) (ys : List Y) (z : Z) → Contains (flat_map (λ v. map (f v) ys) xs) z → (x : X) × (y : Y) × Contains xs x × Contains ys y × (f x y ≡ z)
Contains-from_pairs f [] ys z c = absurd (not_in_nil z c)
Contains-from_pairs f (v ∷ xs) ys z c =
    elim (Contains-append_cases (map (f v) ys) (flat_map (λ u. map (f u) ys) xs) z c) [
      | inl d ↦ (let k = Contains-from_map (f v) ys z d in (v, k.0, Contains-head v xs, k.1, k.2))
      | inr d ↦ (let k = Contains-from_pairs f xs ys z d in (k.0, k.1, Contains-tail v xs k.0 k.2, k.3, k.4))
    ]

module _ {X : Type 0} (test : X → Bool) where
  -- one element more counts if it passes the test
  pub count-cons : (x : X) (xs : List X) → count_by test (x ∷ xs) ≡ cond (test x) 1 0 + count_by test xs
  count-cons x xs = sum_by-cons (λ y. cond (test y) 1 0) x xs

  -- one that passes counts
  pub count-head : (x : X) (xs : List X) → test x ≡ true → count_by test (x ∷ xs) ≡ 1 + count_by test xs
  count-head x xs h =
      let e : ◌≡◌ {A = ℕ} (cond (test x) 1 0) 1 = ap (λ (t : Bool). cond {A = ℕ} t 1 0) h in
      omega (arith, e, count-cons x xs)

  -- where one passes the count is not 0
  pub count-some : (xs : List X) (x : X) → Contains xs x → test x ≡ true → 1 ≤ count_by test xs
  count-some [] x c h = absurd (not_in_nil x c)
  count-some (y ∷ xs) x c h =
      elim (Contains-cons_cases y xs x c) [
        | inl e ↦ omega (arith, count-head y xs (ap test e ∙ h))
        | inr d ↦ omega (arith, count-cons y xs, count-some xs x d h)
      ]

-- a list without one of its elements
pub without : {X : Type 0} (f : X → ℕ) (xs : List X) (x : X) → Contains xs x → (ys : List X) × (sum_by f xs ≡ f x + sum_by f ys) × ((z : X) → Contains xs z → (x ≡ z) ⊎ Contains ys z)
without f [] x c = absurd (not_in_nil x c)
without f (y ∷ xs) x c =
    elim (Contains-cons_cases y xs x c) [
      | inl e ↦ (xs, sum_by-cons f y xs ∙ ap (λ v. f v + sum_by f xs) e, λ z d. elim (Contains-cons_cases y xs z d) [ inl g ↦ inl (sym e ∙ g) | inr g ↦ inr g ])
      | inr d ↦ (let w = without f xs x d in (
        y ∷ w.0,
        omega (arith, w.1, sum_by-cons f y xs, sum_by-cons f y w.0),
        λ z g. elim (Contains-cons_cases y xs z g) [
          | inl h ↦ inr (subst (Contains (y ∷ w.0)) h (Contains-head y w.0))
          | inr h ↦ elim (w.2 z h) [ inl i ↦ inl i | inr i ↦ inr (Contains-tail y w.0 z i) ]
        ],
      ))
    ]

-- rising numbers that all stand in a list have no greater sum than the list
pub sum_by-le_list : (g : ℕ → ℕ) (us vs : List ℕ) → EachPair (λ i j. i < j) us → AllByRecursion (Contains vs) us → sum_by g us ≤ sum_by g vs
sum_by-le_list g [] vs rises here = omega arith
sum_by-le_list g (u ∷ us) vs rises here =
    let w = without g vs u here.0 in
    let others : sum_by g us ≤ sum_by g w.0 =
    sum_by-le_list g us w.0 rises.1 (each-from (Contains w.0) us (λ v c.
    elim (w.2 v (each-contains (Contains vs) us v here.1 c)) [
      | inl e ↦ (let lt : u < v = each-contains (λ j. u < j) us v rises.0 c in absurd (omega (arith, e, lt)))
      | inr d ↦ d
    ])) in
    omega (arith, others, w.1, sum_by-cons g u us)

-- a sum over images is the sum over the elements
pub sum_by-map : {X Y : Type 0} (g : Y → ℕ) (f : X → Y) (xs : List X) → sum_by g (map f xs) ≡ sum_by (λ x. g (f x)) xs
sum_by-map g f [] = refl
sum_by-map g f (x ∷ xs) = omega (arith, sum_by-cons g (f x) (map f xs), sum_by-cons (λ v. g (f v)) x xs, sum_by-map g f xs)

-- a sum of lesser numbers is no greater
pub sum_by-le_each : {X : Type 0} (f g : X → ℕ) (xs : List X) → AllByRecursion (λ x. f x ≤ g x) xs → sum_by f xs ≤ sum_by g xs
sum_by-le_each f g [] h = omega arith
sum_by-le_each f g (x ∷ xs) h = omega (arith, sum_by-cons f x xs, sum_by-cons g x xs, h.0, sum_by-le_each f g xs h.1)

-- what holds of each two places holds of each two elements in their order
pub EachPair-from_pairs : {X : Type 0} (R : X → X → Type 0) (xs : List X) → AllPairs R xs → EachPair R xs
EachPair-from_pairs R [] a = tt
EachPair-from_pairs R (x ∷ xs) a = (
  each-from (R x) xs (λ y c. subst (λ v. R x v) c.2 (a 0 (suc c.0) y (omega arith) (omega (arith, c.1)))),
  EachPair-from_pairs R xs (λ i j d lt in_range. a (suc i) (suc j) d (omega (arith, lt)) (omega (arith, in_range))),
)

-- of two different elements one stands first
pub EachPair-of : {X : Type 0} (R : X → X → Type 0) (xs : List X) (x y : X) → EachPair R xs → Contains xs x → Contains xs y → (x ≡ y → ⊥) → R x y ⊎ R y x
EachPair-of R [] x y e cx cy ne = absurd (not_in_nil x cx)
EachPair-of R (z ∷ xs) x y e cx cy ne =
    elim (Contains-cons_cases z xs x cx) [
      | inl zx ↦ elim (Contains-cons_cases z xs y cy) [
        | inl zy ↦ absurd (ne (sym zx ∙ zy))
        | inr dy ↦ inl (subst (λ v. R v y) zx (each-contains (R z) xs y e.0 dy))
      ]
      | inr dx ↦ elim (Contains-cons_cases z xs y cy) [
        | inl zy ↦ inr (subst (λ v. R v x) zy (each-contains (R z) xs x e.0 dx))
        | inr dy ↦ EachPair-of R xs x y e.1 dx dy ne
      ]
    ]
