-- Tables of names, as names come to stand before those that are there.
use Rattle.std.proofs.Common.{◌≡◌, IfSome, ℕ, ◌+◌, ◌<◌, map, length, Bool, true, false, ◌&&◌, ◌||◌, cond, nat_eq, List, [], ◌∷◌, Option, Some, None, is_some, refl, ap, sym, ◌∙◌, arith, bytes_eq}
use Rattle.sf_parts.proofs.Common.{list_any, position_from, nat_tests, length-map, first, repeated_names, place_in, IsTableOf}
use Rattle.std.specs.Map.{update}
use Rattle.sf_parts.specs.declared.table.NameTable.{NameTable}

-- whether numbers are equal doesn't depend on which comes first
nat_eq_sym : (x y : ℕ) → nat_eq x y ≡ nat_eq y x
nat_eq_sym x y = grind (arith, nat_tests)

-- whether texts are the same doesn't depend on which comes first
pub bytes_eq_sym : (xs ys : List ℕ) → bytes_eq xs ys ≡ bytes_eq ys xs
bytes_eq_sym [] [] = refl
bytes_eq_sym [] (y ∷ ys) = refl
bytes_eq_sym (x ∷ xs) [] = refl
bytes_eq_sym (x ∷ xs) (y ∷ ys) = ap (λ b. b && bytes_eq xs ys) (nat_eq_sym x y) ∙ ap (λ b. nat_eq y x && b) (bytes_eq_sym xs ys)

-- a place is found just where an element passes
pub position_any : {X : Type 0} (p : X → Bool) (i : ℕ) (xs : List X) → is_some (position_from p i xs) ≡ list_any p xs
position_any p i [] = refl
position_any p i (x ∷ xs) = elim (p x) as (λ b. is_some (cond b (Some i) (position_from p (i + 1) xs)) ≡ (b || list_any p xs)) [ true ↦ refl | false ↦ position_any p (i + 1) xs ]

-- with a name put before the others each name is found at its first place
pub found_put : (old new : List ℕ → Option ℕ) (name : List ℕ) (i : ℕ) (names : List (List ℕ)) → ((n : List ℕ) → new n ≡ update bytes_eq old name (Some i) n) → ((n : List ℕ) → old n ≡ position_from (bytes_eq n) (i + 1) names) → (n : List ℕ) → new n ≡ position_from (bytes_eq n) i (name ∷ names)
found_put old new name i names sets found n = sets n ∙ ap (λ b. cond b (Some i) (old n)) (bytes_eq_sym name n) ∙ ap (λ o. cond (bytes_eq n name) (Some i) o) (found n)

-- a name that stands again is the first that does
pub repeats_again : (name : List ℕ) (names : List (List ℕ)) → list_any (bytes_eq name) names ≡ true → first (repeated_names (name ∷ names)) ≡ Some name
repeats_again name names h = rw h refl

-- a name that doesn't stand again leaves the first that does
pub repeats_once : (name : List ℕ) (names : List (List ℕ)) → list_any (bytes_eq name) names ≡ false → first (repeated_names (name ∷ names)) ≡ first (repeated_names names)
repeats_once name names h = rw h refl

-- what a table finds tells which names are there
pub table_has : (t : NameTable) (names : List (List ℕ)) → IsTableOf t 0 names → (n : List ℕ) → is_some (place_in t n) ≡ list_any (bytes_eq n) names
table_has t names is n = ap (λ (o : Option ℕ). is_some o) (is.found n) ∙ position_any (bytes_eq n) 0 names

-- a place that is found lies within the list
position_within : {X : Type 0} (p : X → Bool) (i : ℕ) (xs : List X) (j : ℕ) → position_from p i xs ≡ Some j → j < i + length xs
position_within p i [] j h = cc
position_within p i (x ∷ xs) j h =
    let P : Bool → Type 0 = λ b. cond b (Some i) (position_from p (i + 1) xs) ≡ Some j → j < i + length (x ∷ xs) in
    (elim (p x) as P [ true ↦ (λ e. let s : i ≡ j = cc in omega arith) | false ↦ (λ e. let s : j < i + 1 + length xs = position_within p (i + 1) xs j e in omega arith) ]) h

-- a name stands within the list
pub place_within : {X : Type 0} (name : X → List ℕ) (xs : List X) (n : List ℕ) (o : Option ℕ) → o ≡ position_from (bytes_eq n) 0 (map name xs) → IfSome o (λ i. i < length xs)
place_within name xs n None h = tt
place_within name xs n (Some j) h = let s : j < 0 + length (map name xs) = position_within (bytes_eq n) 0 (map name xs) j (sym h) in omega (arith, length-map xs name)
