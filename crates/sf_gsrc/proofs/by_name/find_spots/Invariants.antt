use Rattle.std.proofs.Common.{option_map}
use Rattle.sf_gsrc.proofs.Names.{AreKnown}
use Rattle.sf_gsrc.proofs.by_name.find_spots.Given as goal

abbrev pub invariant-loop-i : goal.invariant-loop-i
invariant-loop-i l = AreKnown l.places l.i l.by_name (option_map (λ p. p.now.name) l.twice)
