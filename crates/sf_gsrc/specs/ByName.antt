-- What the code looks up by name.
use Rattle.std.specs.Prelude.{◌≡◌, ℕ, ℤ, Bool, List, [], ◌∷◌, Option, Some, None, Result, Ok, Err, if◌then◌else◌, is_some}
use Rattle.std.specs.Option.{option_map}
use Rattle.std.specs.Global.{Vec}
use Rattle.sf_names.specs.Values.{value_in}
use Rattle.sf_parts.specs.declared.raw.RawPad.{RawPad}
use Rattle.sf_gsrc.specs.declared.output.Place.{Place}
use Rattle.sf_gsrc.specs.declared.fault.JoinFault.{JoinFault}
use Rattle.sf_gsrc.specs.declared.fault.JoinFault.TheVariants as faults
use Rattle.sf_gsrc.specs.declared.by_name.Spots.{Spots}
use Rattle.sf_gsrc.specs.Join.{names_of, has_name, first_twice, place_of}

-- the first name that stands again behind its line
abbrev pub first_again : List (List ℕ) → Option (List ℕ)
first_again [] = None
first_again (name ∷ names) = if has_name names name then Some name else first_again names

-- the map has the place of each name
abbrev pub PlacesByName : List (List ℕ × (ℤ × ℤ)) → List Place → Type 0
PlacesByName m places = (name : List ℕ) → value_in m name ≡ place_of places name

-- the map has these names alone
abbrev pub IsNameSet : List (List ℕ × Unit {0}) → (List ℕ → Bool) → Type 0
IsNameSet m has = (name : List ℕ) → is_some (value_in m name) ≡ has name

-- places by their names, and the first name that is placed twice
pub record IsSpots (spots : Spots) (places : List Place) : Type 0 where
  pub by_name : PlacesByName spots.by_name places
  pub twice : option_map (λ p. p.now.name) spots.twice ≡ first_twice (names_of places)

-- the pads are placed, or a name is placed twice
abbrev pub pads_once : Option (List ℕ) → List RawPad → Result (List RawPad) JoinFault
pads_once None pads = Ok pads
pads_once (Some name) pads = Err (faults.PlacedTwice name)

-- what a function returned is this, unless memory ran out
abbrev pub GivesPads : Result (Vec RawPad) JoinFault → Result (List RawPad) JoinFault → Type 0
GivesPads (Ok pads) wanted = wanted ≡ Ok pads.items
GivesPads (Err faults.NoMemory) wanted = Unit {0}
GivesPads (Err (faults.PlacedTwice name)) wanted = wanted ≡ Err (faults.PlacedTwice name)
