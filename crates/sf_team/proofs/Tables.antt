-- Tables of answers, and lists.
use Rattle.std.proofs.Common.{◌≡◌, inl, inr, ℕ, zero, suc, ◌+◌, nat_lt, set, map, ◌<◌, List, [], ◌∷◌, ◌++◌, refl, ap, ◌∙◌, sym, subst, arith, length, take, drop, Contains, slice_get, Some, None, Option, slice_index_or, All, option_map}
use Rattle.std.specs.List.{AllZip}
use Rattle.std.proofs.lemmas.Option.{slice_get-map, slice_get-get_or}
use Rattle.std.proofs.lemmas.Bool.{cases_Bool}
use Rattle.std.proofs.lemmas.Bool.Decides.{nat_tests}
use Rattle.sf_team.proofs.Common.{Contains-append_left, Contains-append_right, Done, ComesTo, AreRight, RightAt, IsTable}

-- a fact of each place, after one of them changed
set_all : {X : Type 0} (F : ℕ → X → Type 0) (l : List X) (i : ℕ) (v : X) → ((k : ℕ) (d : X) → k < length l → F k (slice_index_or l k d)) → F i v
    → (k : ℕ) (d : X) → k < length (set l i v) → F k (slice_index_or (set l i v) k d)
set_all F [] i v h p k d b = absurd (omega arith)
set_all F (x ∷ xs) zero v h p zero d b = p
set_all F (x ∷ xs) zero v h p (suc k) d b = h (suc k) d b
set_all F (x ∷ xs) (suc i) v h p zero d b = h zero d (omega arith)
set_all F (x ∷ xs) (suc i) v h p (suc k) d b = set_all (λ j. F (suc j)) xs i v (λ j e c. h (suc j) e (omega arith)) p k d (omega arith)

-- a change keeps the length
pub set_length : {X : Type 0} (l : List X) (i : ℕ) (v : X) → length (set l i v) ≡ length l
set_length [] i v = refl
set_length (x ∷ xs) zero v = refl
set_length (x ∷ xs) (suc i) v = ap suc (set_length xs i v)

-- the place that changed, and the others
set_here : {X : Type 0} (l : List X) (i : ℕ) (v d : X) → i < length l → slice_index_or (set l i v) i d ≡ v
set_here [] i v d b = absurd (omega arith)
set_here (x ∷ xs) zero v d b = refl
set_here (x ∷ xs) (suc i) v d b = set_here xs i v d (omega arith)

set_other : {X : Type 0} (l : List X) (i : ℕ) (v : X) (k : ℕ) (d : X) → (k ≡ i → ⊥) → slice_index_or (set l i v) k d ≡ slice_index_or l k d
set_other [] i v k d n = refl
set_other (x ∷ xs) zero v zero d n = absurd (n refl)
set_other (x ∷ xs) zero v (suc k) d n = refl
set_other (x ∷ xs) (suc i) v zero d n = refl
set_other (x ∷ xs) (suc i) v (suc k) d n = set_other xs i v k d (λ e. n (ap suc e))

-- a place within a list needs no default
same_default : {X : Type 0} (l : List X) (k : ℕ) (d e : X) → k < length l → slice_index_or l k d ≡ slice_index_or l k e
same_default [] k d e b = absurd (omega arith)
same_default (x ∷ xs) zero d e b = refl
same_default (x ∷ xs) (suc k) d e b = same_default xs k d e (omega arith)

-- what is there is one
some_same : {X : Type 0} {x y : X} → Some x ≡ Some y → x ≡ y
some_same e = cc

-- the element of a list at a place, seen by a view
pub job_of : {X Y : Type 0} (xs : List X) (f : X → Y) (k : ℕ) (x : X) → k < length xs → x ≡ slice_index_or xs k x → slice_get (map f xs) k ≡ Some (f x)
job_of xs f k x b e = slice_get-map f xs k ∙ ap (option_map f) (slice_get-get_or xs k x b ∙ ap (λ z. Some z) (sym e))

-- a list as long as another one stands for all of it
pub whole : {X : Type 0} (n : ℕ) (xs ys : List X) → n ≡ length ys → length xs ≡ length ys → take n (xs ++ drop (length xs) ys) ≡ xs
whole n xs ys e f = ap (λ k. take k (xs ++ drop (length xs) ys)) e ∙ go xs ys f
  where
    go : {X : Type 0} (xs ys : List X) → length xs ≡ length ys → take (length ys) (xs ++ drop (length xs) ys) ≡ xs
    go [] [] f = refl
    go [] (y ∷ ys) f = absurd (omega (arith, f))
    go (x ∷ xs) [] f = absurd (omega (arith, f))
    go (x ∷ xs) (y ∷ ys) f = ap (λ l. x ∷ l) (go xs ys (omega (arith, f)))

-- a fact of each place, with one more
snoc_all : {X : Type 0} (F : ℕ → X → Type 0) (l : List X) (v : X) → ((k : ℕ) (d : X) → k < length l → F k (slice_index_or l k d)) → F (length l) v
    → (k : ℕ) (d : X) → k < length (l ++ v ∷ []) → F k (slice_index_or (l ++ v ∷ []) k d)
snoc_all F [] v h p zero d b = p
snoc_all F [] v h p (suc k) d b = absurd (omega arith)
snoc_all F (x ∷ xs) v h p zero d b = h zero d (omega arith)
snoc_all F (x ∷ xs) v h p (suc k) d b = snoc_all (λ j. F (suc j)) xs v (λ j e c. h (suc j) e (omega arith)) p k d (omega arith)

-- a list with one more is longer by one
pub snoc_length : {X : Type 0} (xs : List X) (x : X) → length (xs ++ x ∷ []) ≡ suc (length xs)
snoc_length [] x = refl
snoc_length (y ∷ ys) x = ap suc (snoc_length ys x)

-- the last of a list
last_at : {X : Type 0} (xs : List X) (x d : X) → slice_index_or (xs ++ x ∷ []) (length xs) d ≡ x
last_at [] x d = refl
last_at (y ∷ ys) x d = last_at ys x d

-- and those before it
front_at : {X : Type 0} (xs ys : List X) (k : ℕ) (d : X) → k < length xs → slice_index_or (xs ++ ys) k d ≡ slice_index_or xs k d
front_at [] ys k d b = absurd (omega arith)
front_at (x ∷ xs) ys zero d b = refl
front_at (x ∷ xs) ys (suc k) d b = front_at xs ys k d (omega arith)

-- what holds of each holds of the last
pub last_of : {X : Type 0} (xs : List X) (x : X) (old : List X) (P : X → Type 0) → old ≡ xs ++ x ∷ [] → All P old → P x
last_of xs x old P e h = subst P (ap (λ l. slice_index_or l (length xs) x) e ∙ last_at xs x x) (h (length xs) x (omega (arith, ap length e, snoc_length xs x)))

-- and of those before it
pub front_of : {X : Type 0} (xs : List X) (x : X) (old : List X) (P : X → Type 0) → old ≡ xs ++ x ∷ [] → All P old → All P xs
front_of xs x old P e h k d b =
    subst P (ap (λ l. slice_index_or l k d) e ∙ front_at xs (x ∷ []) k d b) (h k d (omega (arith, ap length e, snoc_length xs x)))

module _ {J D : Type 0} (gives : J → Option D → Type 0) where
  -- answers more that are right
  pub right_front : (jobs : List J) (xs : List (Done D)) (d : Done D) (old : List (Done D)) → old ≡ xs ++ d ∷ [] → AreRight gives jobs old → AreRight gives jobs xs
  right_front jobs xs d old e h x c = h x (subst (λ l. Contains l x) (sym e) (Contains-append_left xs (d ∷ []) x c))

  -- the last of them
  pub right_last : (jobs : List J) (xs : List (Done D)) (d : Done D) (old : List (Done D)) → old ≡ xs ++ d ∷ [] → AreRight gives jobs old → ComesTo gives jobs d.number d.answer
  right_last jobs xs d old e h = h d (subst (λ l. Contains l d) (sym e) (Contains-append_right xs (d ∷ []) d (0, omega arith, refl)))

  -- one answer more in the table
  pub table_noted : (jobs : List J) (table : List (Option D)) (number : ℕ) (answer : D) → IsTable gives jobs table → ComesTo gives jobs number answer → IsTable gives jobs (set table number (Some answer))
  table_noted jobs table number answer is comes = record {
    count = set_length table number (Some answer) ∙ is.count;
    right = set_all (RightAt gives jobs) table number (Some answer) is.right comes;
  }

  -- a place of a list is there in a longer one
  got_more : (jobs more : List J) (k : ℕ) (j : J) → slice_get jobs k ≡ Some j → slice_get (jobs ++ more) k ≡ Some j
  got_more [] more k j e = cc
  got_more (x ∷ xs) more zero j e = e
  got_more (x ∷ xs) more (suc k) j e = got_more xs more k j e

  -- a right place stays right with more jobs
  right_more : (jobs more : List J) (k : ℕ) (place : Option D) → RightAt gives jobs k place → RightAt gives (jobs ++ more) k place
  right_more jobs more k None h = tt
  right_more jobs more k (Some a) h = (h.0, got_more jobs more k h.0 h.1, h.2)

  -- one job more, without an answer
  pub table_more : (jobs : List J) (job : J) (table : List (Option D)) → IsTable gives jobs table → IsTable gives (jobs ++ job ∷ []) (table ++ None ∷ [])
  table_more jobs job table is = record {
    count = snoc_length table None ∙ ap suc is.count ∙ sym (snoc_length jobs job);
    right = snoc_all (RightAt gives (jobs ++ job ∷ [])) table None (λ k d b. right_more jobs (job ∷ []) k (slice_index_or table k d) (is.right k d b)) tt;
  }

  -- the first places have their answers, and each other place is right
  pub record IsFilled (jobs : List J) (number : ℕ) (table : List (Option D)) : Type 0 where
    pub count : length table ≡ length jobs
    pub full : (k : ℕ) (d : Option D) (j : J) → k < number → slice_get jobs k ≡ Some j → gives j (slice_index_or table k d)
    pub right : (k : ℕ) (d : Option D) → k < length table → RightAt gives jobs k (slice_index_or table k d)

  -- what the answer of a job may be in its place
  right_answer : (jobs : List J) (number : ℕ) (j : J) (answer : Option D) → slice_get jobs number ≡ Some j → gives j answer → RightAt gives jobs number answer
  right_answer jobs number j None e h = tt
  right_answer jobs number j (Some a) e h = (j, e, h)

  -- one place more is filled by what its job gives
  pub filled_set : (jobs : List J) (number : ℕ) (table : List (Option D)) (j : J) (answer : Option D) → IsFilled jobs number table → number < length table → slice_get jobs number ≡ Some j → gives j answer
      → IsFilled jobs (number + 1) (set table number answer)
  filled_set jobs number table j answer is within here gave = record {
    count = set_length table number answer ∙ is.count;
    full = λ k d i b e. elim (cases_Bool (nat_lt k number)) [
      | inl below ↦ let lower : k < number = grind (arith, nat_tests, below) in
          subst (λ x. gives i x) (sym (set_other table number answer k d (λ same. omega (arith, same, lower)))) (is.full k d i lower e)
      | inr not_below ↦ let same : k ≡ number = grind (arith, nat_tests, not_below, b) in
          let job : i ≡ j = some_same (sym e ∙ ap (slice_get jobs) same ∙ here) in
          subst (λ (p : J × Option D). gives p.0 p.1) (λ m. (sym job m, sym (ap (λ q. slice_index_or (set table number answer) q d) same ∙ set_here table number answer d within) m)) gave
    ];
    right = set_all (RightAt gives jobs) table number answer is.right (right_answer jobs number j answer here gave);
  }

  -- a place that has an answer is filled
  pub filled_kept : (jobs : List J) (number : ℕ) (table : List (Option D)) (j : J) (d : Option D) → IsFilled jobs number table → number < length table → slice_get jobs number ≡ Some j
      → (slice_index_or table number d ≡ None → ⊥) → IsFilled jobs (number + 1) table
  filled_kept jobs number table j d is within here some = record {
    count = is.count;
    full = λ k e i b g. elim (cases_Bool (nat_lt k number)) [
      | inl below ↦ is.full k e i (grind (arith, nat_tests, below)) g
      | inr not_below ↦ let same : k ≡ number = grind (arith, nat_tests, not_below, b) in
          let job : i ≡ j = some_same (sym g ∙ ap (slice_get jobs) same ∙ here) in
          let place : slice_index_or table k e ≡ slice_index_or table number d = ap (λ q. slice_index_or table q e) same ∙ same_default table number e d within in
          subst (λ (p : J × Option D). gives p.0 p.1) (λ m. (sym job m, sym place m)) (of_place (slice_index_or table number d) (is.right number d within) some)
    ];
    right = is.right;
  }
    where
      of_place : (place : Option D) → RightAt gives jobs number place → (place ≡ None → ⊥) → gives j place
      of_place None h other = absurd (other refl)
      of_place (Some a) h other = subst (λ i. gives i (Some a)) (some_same (sym h.1 ∙ here)) h.2

  -- where all are filled, each is what its job gives
  pub filled_all : (jobs : List J) (table : List (Option D)) → length table ≡ length jobs → ((k : ℕ) (d : Option D) (j : J) → k < length jobs → slice_get jobs k ≡ Some j → gives j (slice_index_or table k d))
      → AllZip gives jobs table
  filled_all [] [] e h = tt
  filled_all [] (y ∷ ys) e h = absurd (omega (arith, e))
  filled_all (x ∷ xs) [] e h = absurd (omega (arith, e))
  filled_all (x ∷ xs) (y ∷ ys) e h = (h 0 None x (omega arith) refl, filled_all xs ys (omega (arith, e)) (λ k d j b g. h (suc k) d j (omega arith) g))
