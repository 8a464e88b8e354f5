-- Lists of names, and the places of names in them.
use Rattle.std.specs.Prelude.{◌≡◌, ℕ, suc, Bool, List, [], ◌∷◌, ◌++◌, map, Option, Some, None, is_some, if◌then◌else◌}
use Rattle.std.specs.Option.{option_map}
use Rattle.std.specs.Str.{bytes_eq}
use denote.Ref.{Bor}

-- the place of the first name of the list that is this one
abbrev pub index_of : List ℕ → List (List ℕ) → Option ℕ
index_of name [] = None
index_of name (other ∷ more) = if bytes_eq other name then Some 0 else option_map suc (index_of name more)

-- the name is one of the list
abbrev pub has_name : List ℕ → List (List ℕ) → Bool
has_name name names = is_some (index_of name names)

-- the list with a name that it has, or with it behind the others
abbrev pub noted : List ℕ → List (List ℕ) → List (List ℕ)
noted name names = if has_name name names then names else names ++ name ∷ []

-- no name stands twice
abbrev pub Once : List (List ℕ) → Type 0
Once [] = Unit {0}
Once (name ∷ more) = (index_of name more ≡ None) × Once more

-- the bytes of names that are borrowed
abbrev pub bytes_of : List (Bor (List ℕ)) → List (List ℕ)
bytes_of names = map (λ name. name.now) names
