-- The first of two lists, one after the other.
use Rattle.std.proofs.Common.{◌≡◌, ◌≢◌, Result, Ok, Err, IsErrAnd, ℕ, ◌+◌, ◌<◌, length, get_or, drop, List, [], ◌∷◌, ◌++◌, Some, ap, sym, ◌∙◌}
use Rattle.sf_parts.proofs.Common.{flat_map, first, IsFirstOf, BuildFault, NoMemory}
use Rattle.sf_model.proofs.Walks.{drop_step}

-- the first of the first list is the first of both
pub first_some : {X : Type 0} (xs ys : List X) (x : X) → first xs ≡ Some x → first (xs ++ ys) ≡ Some x
first_some [] ys x h = cc
first_some (y ∷ xs) ys x h = h

-- A walk that looks for the first of what f gives of a list.

-- the first of what f gives is found at the element where a walk finds one
pub walk_found : {X Y : Type 0} (f : X → List Y) (xs : List X) (i : ℕ) (d : X) (y : Y) → i < length xs → first (flat_map f xs) ≡ first (flat_map f (drop i xs)) → first (f (get_or xs i d)) ≡ Some y → first (flat_map f xs) ≡ Some y
walk_found f xs i d y within so here = so ∙ ap (λ ys. first (flat_map f ys)) (drop_step xs i d within) ∙ first_some (f (get_or xs i d)) (flat_map f (drop (i + 1) xs)) y here

-- a walk that ends at a fault of the element at i
pub walk_refused : {X R : Type 0} (f : X → List BuildFault) (xs : List X) (i : ℕ) (d : X) (fault : BuildFault) (result : Result R BuildFault) → i < length xs → first (flat_map f xs) ≡ first (flat_map f (drop i xs)) → d ≡ get_or xs i d → (fault ≢ NoMemory → first (f d) ≡ Some fault) → IsErrAnd result (λ e. e ≡ fault) → IsFirstOf (flat_map f xs) result
walk_refused f xs i d fault (Ok r) within so is here same = absurd same
walk_refused f xs i d fault (Err e) within so is here same = λ other.
    let found : first (f d) ≡ Some fault = here (λ z. other (same ∙ z)) in
    walk_found f xs i d fault within so (ap (λ y. first (f y)) (sym is) ∙ found) ∙ ap Some (sym same)
