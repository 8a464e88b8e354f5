-- The parts of a bound: what each of them may say, and which of them closes a subproblem first.
use Rattle.std.specs.Prelude.{◌≡◌, ℕ, ◌≤◌, nat_le, if◌then◌else◌}
use Rattle.sf_model.specs.declared.design.Design.{Design}
use Rattle.sf_node.specs.declared.part.Part.{Part}
use Rattle.sf_node.specs.declared.part.Part.TheVariants.{Area, Range, Pair, Hull, Full}
use Rattle.sf_node.specs.declared.part.PartValues.{PartValues}
use Rattle.sf_node.specs.Parts.{Parts}
use Rattle.sf_node.specs.Children.{IsSubproblem}

-- no part is above the value of a subproblem, and the full one is the value
pub record ArePartsOf (design : Design) (value : Parts → ℕ) (part : Parts → Part → ℕ) : Type 0 where
  pub below : (node : Parts) (p : Part) → IsSubproblem design node → part node p ≤ value node
  pub full : (node : Parts) → part node Full ≡ value node

-- these are the values of the parts
pub record AreValues (part : Part → ℕ) (values : PartValues) : Type 0 where
  pub area : values.area ≡ part Area
  pub range : values.range ≡ part Range
  pub pair : values.pair ≡ part Pair
  pub hull : values.hull ≡ part Hull

-- the first part, in the order of the type, whose value is at least the cost; the full one where none before it is
abbrev pub first_part : (Part → ℕ) → ℕ → Part
first_part part cost =
    if nat_le cost (part Area) then Area
    else (if nat_le cost (part Range) then Range
    else (if nat_le cost (part Pair) then Pair
    else (if nat_le cost (part Hull) then Hull
    else Full)))
