-- What the code has of a line of a pl file, as what it says.
use Rattle.std.specs.Prelude.{◌≡◌, List, ◌∷◌, [], ◌++◌, Result, Ok, Err}
use Rattle.std.specs.Global.{Vec}
use Rattle.sf_gsrc.specs.declared.fault.GsrcFault.{GsrcFault}
use Rattle.sf_gsrc.specs.declared.place_line.PlaceLine.{PlaceLine}
use Rattle.sf_gsrc.specs.declared.output.Place.{Place}
use Rattle.sf_gsrc.specs.Blocks.{Fails}

-- the place that the code has of a line
abbrev pub place_in : PlaceLine → Place
place_in line = record { name = line.name.now; x = line.x; y = line.y; size = line.size }

-- a line was read, and its place is kept; or it has this fault
abbrev pub KeepsPlace : {T : Type 0} → Result T GsrcFault → List Place → List Place → Result Place GsrcFault → Type 0
KeepsPlace (Ok x) old new read = (place : Place) × (read ≡ Ok place) × (new ≡ old ++ place ∷ [])
KeepsPlace (Err fault) old new read = Fails fault read

-- all lines were read, and their places are kept; or they have this fault
abbrev pub KeepsPlaces : Result (Vec Place) GsrcFault → Result (List Place) GsrcFault → Type 0
KeepsPlaces (Ok places) read = read ≡ Ok places.items
KeepsPlaces (Err fault) read = Fails fault read
