-- The first name that has a like anywhere is the first that stands again behind its line.
use Rattle.std.proofs.Common.{◌≡◌, ℕ, ◌+◌, ◌||◌, nat_lt, Bool, true, false, cond, if◌then◌else◌, Some, List, [], ◌∷◌, ◌++◌, refl, sym, ap, ◌∙◌, append_assoc, arith}
use Rattle.sf_gsrc.proofs.Common.{count_by, find, bytes_eq, nat_tests, has_name, has_like, first_twice, first_again, sum_by-append, sum_by-cons, list_any-append, bytes_eq-Decides, or-true}

-- how often a name stands among these
abbrev often : List (List ℕ) → List ℕ → ℕ
often names name = count_by (λ n. bytes_eq n name) names

-- a name stands as often as in the rest, and once more where it comes first
often-cons : (n : List ℕ) (names : List (List ℕ)) (name : List ℕ) → often (n ∷ names) name ≡ cond (bytes_eq n name) 1 0 + often names name
often-cons n names name = sum_by-cons (λ (m : List ℕ). cond (bytes_eq m name) 1 0) n names

-- a name stands in two lists as often as in both together
often-append : (xs ys : List (List ℕ)) (name : List ℕ) → often (xs ++ ys) name ≡ often xs name + often ys name
often-append xs ys name = sum_by-append (λ (m : List ℕ). cond (bytes_eq m name) 1 0) xs ys

-- a name is one of a list's where it stands in it at least once
has_often : (names : List (List ℕ)) (name : List ℕ) → has_name names name ≡ nat_lt 0 (often names name)
has_often [] name = refl
has_often (n ∷ names) name =
    rw (often-cons n names name, has_often names name)
    (elim (bytes_eq n name) as (λ b. (b || nat_lt 0 (often names name)) ≡ nat_lt 0 (cond b 1 0 + often names name)) [ true ↦ grind (arith, nat_tests) | false ↦ grind (arith, nat_tests) ])

-- no name of the rest stands before it
abbrev IsFresh : List (List ℕ) → List (List ℕ) → Type 0
IsFresh before rest = (name : List ℕ) → has_name rest name ≡ true → has_name before name ≡ false

-- a name that does not stand before its line has a like exactly where it stands again behind it
like_is : (before : List (List ℕ)) (name : List ℕ) (rest : List (List ℕ)) → has_name before name ≡ false → has_like (before ++ name ∷ rest) name ≡ has_name rest name
like_is before name rest fresh =
    let here : cond {A = ℕ} (bytes_eq name name) 1 0 ≡ 1 = rw ((bytes_eq-Decides name name).1 refl) refl in
    let none : nat_lt 0 (often before name) ≡ false = sym (has_often before name) ∙ fresh in
    let all : often (before ++ name ∷ rest) name ≡ often before name + (1 + often rest name) = omega (arith, often-append before (name ∷ rest) name, often-cons name rest name, here) in
    rw (all, has_often rest name) (grind (arith, nat_tests, none))

-- a name of the rest does not stand before it either when a name that is not in the rest joins those before
still_fresh_by : (before : List (List ℕ)) (name : List ℕ) (rest : List (List ℕ)) (n : List ℕ) (b : Bool) → bytes_eq name n ≡ b → has_name rest name ≡ false → has_name before n ≡ false → has_name rest n ≡ true → has_name (before ++ name ∷ []) n ≡ false
still_fresh_by before name rest n true e none fresh here =
    absurd (let both : true ≡ false = sym here ∙ ap (has_name rest) (sym ((bytes_eq-Decides name n).0 e)) ∙ none in cc)
still_fresh_by before name rest n false e none fresh here = list_any-append (λ m. bytes_eq m n) before (name ∷ []) ∙ rw (fresh, e) refl

-- behind a name that does not stand again the rest is fresh still
still_fresh : (before : List (List ℕ)) (name : List ℕ) (rest : List (List ℕ)) → IsFresh before (name ∷ rest) → has_name rest name ≡ false → IsFresh (before ++ name ∷ []) rest
still_fresh before name rest fresh none n here =
    let later : has_name (name ∷ rest) n ≡ true = rw here (or-true (bytes_eq name n)) in
    still_fresh_by before name rest n (bytes_eq name n) refl none (fresh n later) here

-- of a fresh rest the first name with a like is the first that stands again in it
first_of : (before rest : List (List ℕ)) → IsFresh before rest → find (has_like (before ++ rest)) rest ≡ first_again rest
first_of before [] fresh = refl
first_of before (name ∷ rest) fresh =
    rw (like_is before name rest (fresh name (rw ((bytes_eq-Decides name name).1 refl) refl))) (by_again (has_name rest name) refl (λ again. first_of (before ++ name ∷ []) rest (still_fresh before name rest fresh again)))
  where
    by_again : (b : Bool) → has_name rest name ≡ b → (has_name rest name ≡ false → find (has_like ((before ++ name ∷ []) ++ rest)) rest ≡ first_again rest)
        → (if b then Some name else find (has_like (before ++ name ∷ rest)) rest) ≡ (if b then Some name else first_again rest)
    by_again true again later = refl
    by_again false again later = ap (λ (all : List (List ℕ)). find (has_like all) rest) (sym (append_assoc before (name ∷ []) rest)) ∙ later again

-- the first name with a like is the first that stands again further on
pub first_twice_is : (names : List (List ℕ)) → first_twice names ≡ first_again names
first_twice_is names = first_of [] names (λ name here. refl)
