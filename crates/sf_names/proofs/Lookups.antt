-- Values of names that are borrowed.
use Rattle.std.proofs.Common.{◌≡◌, ℕ, List, [], ◌∷◌, cond, Some, refl, ap}
use Rattle.std.specs.Map.{lookup}
use Rattle.sf_names.proofs.Common.{bytes_eq, value_in, entries_of}
use Rattle.std.specs.Borrow.{Bor}

-- a name is looked for by its bytes
pub value_found : {V : Type 0} (name : List ℕ) (entries : List (Bor (List ℕ) × V)) → lookup (λ k. bytes_eq name k.now) entries ≡ value_in (entries_of entries) name
value_found name [] = refl
value_found name (e ∷ entries) = ap (λ o. cond (bytes_eq name e.0.now) (Some e.1) o) (value_found name entries)
