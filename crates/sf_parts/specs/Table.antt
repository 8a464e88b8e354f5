-- Names found by an ordered map.
use Rattle.std.specs.Prelude.{◌≡◌, ℕ, List, Option}
use Rattle.std.specs.BTreeMap.{get_by}
use Rattle.std.specs.Cmp.Lexicographic.{slice_cmp}
use Rattle.std.specs.List.{position_from}
use Rattle.std.specs.Option.{option_copied}
use Rattle.std.specs.Ordering.{nat_cmp}
use Rattle.std.specs.Str.{bytes_eq}
use Rattle.sf_parts.specs.Admitted.{first, repeated_names}
use Rattle.sf_parts.specs.declared.table.NameTable.{NameTable}

-- where the table has the name
abbrev pub place_in : NameTable → List ℕ → Option ℕ
place_in table n = get_by (λ k. slice_cmp nat_cmp n k.now) table.places

-- the table of these names, the first of which has index i
pub record IsTableOf (table : NameTable) (i : ℕ) (names : List (List ℕ)) : Type 0 where
  pub found : (n : List ℕ) → place_in table n ≡ position_from (bytes_eq n) i names
  pub repeats : option_copied table.first_repeated ≡ first (repeated_names names)
