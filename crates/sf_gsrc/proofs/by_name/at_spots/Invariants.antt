use Rattle.std.proofs.Common.{◌≡◌, List}
use Rattle.sf_gsrc.proofs.Common.{Place, pads_at, PlacesByName}
use Rattle.sf_gsrc.proofs.by_name.at_spots.Given as goal

abbrev pub invariant-loop-name : goal.invariant-loop-name
invariant-loop-name l = (places : List Place) → PlacesByName l.by_name places → l.all.items ≡ pads_at places l.yielded
