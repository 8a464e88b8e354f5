-- What holds of each two of a list.
use Rattle.std.proofs.Common.{◌≡◌, ℕ, suc, ◌+◌, ◌<◌, ◌≤◌, max, List, [], ◌∷◌, ◌++◌, map, arith, refl, ap, sym, ◌∙◌, Bool, true, false, ◌||◌, inl, inr}
use Rattle.std.proofs.Math.Bool.{or_assoc}
use Rattle.sf_bound_kit.proofs.Common.{zero, AllByRecursion, fold, list_any, range_with_len, EachPair, each-append, each-map, Shape, each_two, greatest, or_cases}

-- what holds between each two holds of each pair
pub each-two : (P : Shape × Shape → Type 0) (ss : List Shape) → EachPair (λ s t. P (s, t)) ss → AllByRecursion P (each_two ss)
each-two P [] h = tt
each-two P (s ∷ ss) h = each-append P (map (λ t. (s, t)) ss) (each_two ss) (each-map P (λ t. (s, t)) ss h.0) (each-two P ss h.1)

-- what bounds each number bounds the greatest
pub greatest-le : (m : ℕ) (ns : List ℕ) → AllByRecursion (λ n. n ≤ m) ns → greatest ns ≤ m
greatest-le m [] h = omega arith
greatest-le m (n ∷ ns) h = omega (arith, h.0, greatest-le m ns h.1)

-- what holds of the numbers from a on and below m holds of each of a range between these
range-between : (P : ℕ → Type 0) (a n m : ℕ) → a + n ≤ m → ((i : ℕ) → a ≤ i → i < m → P i) → AllByRecursion P (range_with_len a n)
range-between P a zero m h f = tt
range-between P a (suc n) m h f = (f a (omega arith) (omega (arith, h)), range-between P (a + 1) n m (omega (arith, h)) (λ i l u. f i (omega (arith, l)) u))

-- what holds of each two numbers below m, the lesser one first, holds between each two of a range below m
pub range-pairs : (R : ℕ → ℕ → Type 0) (a n m : ℕ) → a + n ≤ m → ((i j : ℕ) → i < j → j < m → R i j) → EachPair R (range_with_len a n)
range-pairs R a zero m h f = tt
range-pairs R a (suc n) m h f = (range-between (R a) (a + 1) n m (omega (arith, h)) (λ j l u. f a j (omega (arith, l)) u), range-pairs R (a + 1) n m (omega (arith, h)) f)

-- where no element passes a test, none is found by it
pub none-passes : {X : Type 0} (test : X → Bool) (xs : List X) → AllByRecursion (λ x. test x ≡ true → ⊥) xs → list_any test xs ≡ true → ⊥
none-passes test [] h e = cc
none-passes test (x ∷ xs) h e = elim (or_cases (test x) (list_any test xs) e) [ inl t ↦ h.0 t | inr r ↦ none-passes test xs h.1 r ]

-- the greatest over all pairs, by those of the first element and those of the others
pub greatest-first : (f : Shape × Shape → ℕ) (s : Shape) (ss : List Shape) → greatest (map f (each_two (s ∷ ss))) ≡ max (greatest (map (λ t. f (s, t)) ss)) (greatest (map f (each_two ss)))
greatest-first f s ss = go ss
  where
    go : (ts : List Shape) → greatest (map f (map (λ t. (s, t)) ts ++ each_two ss)) ≡ max (greatest (map (λ t. f (s, t)) ts)) (greatest (map f (each_two ss)))
    go [] = omega arith
    go (t ∷ ts) = omega (arith, go ts)

-- the greatest as a loop finds it
pub greatest-folded : (f : Shape → ℕ) (a : ℕ) (ss : List Shape) → fold (λ n t. max n (f t)) a ss ≡ max a (greatest (map f ss))
greatest-folded f a [] = omega arith
greatest-folded f a (s ∷ ss) = omega (arith, greatest-folded f (max a (f s)) ss)

-- a test of some pair, by those of the first element and those of the others
pub any-first : (test : Shape × Shape → Bool) (s : Shape) (ss : List Shape) → list_any test (each_two (s ∷ ss)) ≡ (list_any (λ t. test (s, t)) ss || list_any test (each_two ss))
any-first test s ss = go ss
  where
    go : (ts : List Shape) → list_any test (map (λ t. (s, t)) ts ++ each_two ss) ≡ (list_any (λ t. test (s, t)) ts || list_any test (each_two ss))
    go [] = refl
    go (t ∷ ts) = ap (λ b. test (s, t) || b) (go ts) ∙ sym (or_assoc (test (s, t)) (list_any (λ u. test (s, u)) ts) (list_any test (each_two ss)))

-- a loop over the first elements finds the greatest
pub greatest-next : (f : Shape × Shape → ℕ) (s : Shape) (ss rest : List Shape) (most here more all : ℕ) → rest ≡ s ∷ ss → here ≡ greatest (map (λ t. f (s, t)) ss) → more ≡ max most here → max most (greatest (map f (each_two rest))) ≡ all → max more (greatest (map f (each_two ss))) ≡ all
greatest-next f s ss rest most here more all e is becomes h = omega (arith, is, becomes, h, ap (λ v. greatest (map f (each_two v))) e, greatest-first f s ss)

-- one that passes with the first element is one of all
pub any-here : (test : Shape × Shape → Bool) (s : Shape) (ss rest : List Shape) (here : Bool) → rest ≡ s ∷ ss → here ≡ list_any (λ t. test (s, t)) ss → here ≡ true → list_any test (each_two rest) ≡ true
any-here test s ss rest here e is passes =
    ap (λ v. list_any test (each_two v)) e ∙ any-first test s ss ∙ ap (λ v. v || list_any test (each_two ss)) (sym is ∙ passes)

-- where none passes with the first element, those of the others tell
pub any-later : (test : Shape × Shape → Bool) (s : Shape) (ss rest : List Shape) (here : Bool) → rest ≡ s ∷ ss → here ≡ list_any (λ t. test (s, t)) ss → here ≡ false → list_any test (each_two ss) ≡ list_any test (each_two rest)
any-later test s ss rest here e is fails =
    sym (ap (λ v. list_any test (each_two v)) e ∙ any-first test s ss ∙ ap (λ v. v || list_any test (each_two ss)) (sym is ∙ fails))
