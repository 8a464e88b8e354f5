use Rattle.sf_cuts.proofs.Places.{IsSearched}
use Rattle.sf_cuts.proofs.parting.last_place.Given as goal

abbrev pub invariant-loop-place : goal.invariant-loop-place
invariant-loop-place l = IsSearched l.axis l.spots l.place l.last l.reach
