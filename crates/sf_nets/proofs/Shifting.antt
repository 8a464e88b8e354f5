-- A list whose elements from a on were changed, up to i.
use Rattle.std.proofs.Common.{◌≡◌, ℕ, suc, ◌+◌, ◌<◌, ◌≤◌, List, [], ◌∷◌, ◌++◌, length, map, take, drop, get_or, arith, refl, ap, sym, subst, ◌∙◌, All}
use Rattle.sf_nets.proofs.Common.{slice_set, zero}

module _ {X : Type 0} (f : X → X) where
  -- the list with f of the elements from place a up to before place i
  abbrev pub shifted : ℕ → ℕ → List X → List X
  shifted a i [] = []
  shifted a zero (x ∷ xs) = x ∷ xs
  shifted zero (suc i) (x ∷ xs) = f x ∷ shifted zero i xs
  shifted (suc a) (suc i) (x ∷ xs) = x ∷ shifted a i xs

  -- where no element was changed it is the list
  pub shifted-none : (a : ℕ) (xs : List X) → shifted a a xs ≡ xs
  shifted-none a [] = refl
  shifted-none zero (x ∷ xs) = refl
  shifted-none (suc a) (x ∷ xs) = ap (λ v. x ∷ v) (shifted-none a xs)

  -- the changed list has as many elements
  pub shifted-length : (a i : ℕ) (xs : List X) → length (shifted a i xs) ≡ length xs
  shifted-length a i [] = refl
  shifted-length a zero (x ∷ xs) = refl
  shifted-length zero (suc i) (x ∷ xs) = omega (arith, shifted-length zero i xs)
  shifted-length (suc a) (suc i) (x ∷ xs) = omega (arith, shifted-length a i xs)

  -- the next element is as it was
  pub shifted-at : (a i : ℕ) (xs : List X) (d : X) → a ≤ i → get_or (shifted a i xs) i d ≡ get_or xs i d
  shifted-at a i [] d h = refl
  shifted-at a zero (x ∷ xs) d h = refl
  shifted-at zero (suc i) (x ∷ xs) d h = shifted-at zero i xs d (omega arith)
  shifted-at (suc a) (suc i) (x ∷ xs) d h = shifted-at a i xs d (omega arith)

  -- with the next element changed too it is the list changed up to behind it
  pub shifted-more : (a i : ℕ) (xs : List X) (d : X) → a ≤ i → i < length xs → slice_set (shifted a i xs) i (f (get_or xs i d)) ≡ shifted a (suc i) xs
  shifted-more a i [] d h lt = absurd (omega arith)
  shifted-more zero zero (x ∷ []) d h lt = refl
  shifted-more zero zero (x ∷ y ∷ xs) d h lt = refl
  shifted-more (suc a) zero (x ∷ xs) d h lt = absurd (omega arith)
  shifted-more zero (suc i) (x ∷ xs) d h lt = ap (λ v. f x ∷ v) (shifted-more zero i xs d (omega arith) (omega arith))
  shifted-more (suc a) (suc i) (x ∷ xs) d h lt = ap (λ v. x ∷ v) (shifted-more a i xs d (omega arith) (omega arith))

  -- changed from the first to the last it is the list mapped
  shifted-map : (i : ℕ) (xs : List X) → length xs ≤ i → shifted zero i xs ≡ map f xs
  shifted-map i [] h = refl
  shifted-map zero (x ∷ xs) h = absurd (omega arith)
  shifted-map (suc i) (x ∷ xs) h = ap (λ v. f x ∷ v) (shifted-map i xs (omega arith))

  -- changed from place a to the last it is the first elements, and the others mapped
  pub shifted-all : (a i : ℕ) (xs : List X) → a ≤ length xs → length xs ≤ i → shifted a i xs ≡ take a xs ++ map f (drop a xs)
  shifted-all zero i xs h k = shifted-map i xs k
  shifted-all (suc a) i [] h k = absurd (omega arith)
  shifted-all (suc a) zero (x ∷ xs) h k = absurd (omega arith)
  shifted-all (suc a) (suc i) (x ∷ xs) h k = ap (λ v. x ∷ v) (shifted-all a i xs (omega arith) (omega arith))

  -- the next element that is found in the changed list is that of the list
  shifted-found : (ys xs : List X) (a i : ℕ) (x : X) → ys ≡ shifted a i xs → a ≤ i → x ≡ get_or ys i x → x ≡ get_or xs i x
  shifted-found ys xs a i x e h is = is ∙ ap (λ v. get_or v i x) e ∙ shifted-at a i xs x h

  -- a write of what the next element becomes
  pub shift-step : (ys xs : List X) (a i : ℕ) (x : X) → ys ≡ shifted a i xs → a ≤ i → i < length ys → x ≡ get_or ys i x → slice_set ys i (f x) ≡ shifted a (i + 1) xs
  shift-step ys xs a i x e h lt is =
      let one : suc i ≡ i + 1 = omega arith in
      ap (λ v. slice_set v i (f x)) e ∙ ap (λ v. slice_set (shifted a i xs) i (f v)) (shifted-found ys xs a i x e h is)
      ∙ shifted-more a i xs x h (omega (arith, lt, ap length e, shifted-length a i xs)) ∙ ap (λ n. shifted a n xs) one

  -- what holds of all elements holds of the next one
  pub shift-fact : (P : X → Type 0) (ys xs : List X) (a i : ℕ) (x : X) → All P xs → ys ≡ shifted a i xs → a ≤ i → i < length ys → x ≡ get_or ys i x → P x
  shift-fact P ys xs a i x all e h lt is =
      subst P (sym (shifted-found ys xs a i x e h is)) (all i x (omega (arith, lt, ap length e, shifted-length a i xs)))

  -- a list that was changed to its end is the first elements, and the others mapped
  pub shift-end : (ys xs : List X) (a i : ℕ) → ys ≡ shifted a i xs → a ≤ length xs → length xs ≤ i → ys ≡ take a xs ++ map f (drop a xs)
  shift-end ys xs a i e h k = e ∙ shifted-all a i xs h k
