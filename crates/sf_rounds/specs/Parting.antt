-- Stretches that are cut into parts.
use Rattle.std.specs.Prelude.{◌≡◌, ℕ, ◌≤◌, List, [], ◌∷◌, ◌++◌, length, All, Option, Some, None, IsPermutation}
use Rattle.sf_model.specs.declared.design.Design.{Design}
use Rattle.sf_node.specs.Parts.{Parts}
use Rattle.sf_cursor.specs.declared.stretch.Stretch.{Stretch}
use Rattle.sf_cursor.specs.Stretches.{IsStretch, waits}
use Rattle.sf_rounds.specs.Rounds.{all_waits}

-- no fewer stretches, which stand for the same subproblems
pub record AreParts (design : Design) (bound : Parts → ℕ) (old new : List Stretch) : Type 0 where
  pub are : All (IsStretch design bound) new
  pub many : length old ≤ length new
  pub same : IsPermutation (all_waits design old) (all_waits design new)

-- one stretch and its parts, or the stretch alone
abbrev pub two_of : Stretch → Option Stretch → List Stretch
two_of first None = first ∷ []
two_of first (Some other) = first ∷ other ∷ []

-- the stretch is cut in two, or stays one
pub record IsCut (design : Design) (bound : Parts → ℕ) (old first : Stretch) (other : Option Stretch) : Type 0 where
  pub are : All (IsStretch design bound) (two_of first other)
  pub same : waits design old ≡ all_waits design (two_of first other)

-- the parts of a stretch, one or more, are added
pub record AddsParts (design : Design) (bound : Parts → ℕ) (stretch : Stretch) (old new : List Stretch) : Type 0 where
  pub parts : List Stretch
  pub added : new ≡ old ++ parts
  pub are : All (IsStretch design bound) parts
  pub some : 1 ≤ length parts
  pub same : waits design stretch ≡ all_waits design parts
