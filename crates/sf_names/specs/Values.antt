-- Values of names.
use Rattle.std.specs.Prelude.{ℕ, List, Option, map}
use Rattle.std.specs.Map.{lookup}
use Rattle.std.specs.Str.{bytes_eq}
use Rattle.std.specs.Borrow.{Bor}

-- the value of the first entry that has the name
abbrev pub value_in : {V : Type 0} → List (List ℕ × V) → List ℕ → Option V
value_in entries name = lookup (bytes_eq name) entries

-- entries whose names are borrowed
abbrev pub entries_of : {V : Type 0} → List (Bor (List ℕ) × V) → List (List ℕ × V)
entries_of entries = map (λ e. (e.0.now, e.1)) entries
