use Rattle.std.proofs.Common.{ℕ, List, [], drop, map}
use Rattle.sf_gsrc.proofs.Common.{AreOwners, AreOwnersFrom}
use Rattle.sf_gsrc.proofs.owners.Owners.put_pads.Given as goal

abbrev pub invariant-loop-i : goal.invariant-loop-i
invariant-loop-i l = (blocks : List (List ℕ)) → AreOwners l.initial.self blocks [] → AreOwnersFrom l.self 0 blocks l.i (map (λ p. p.name) (drop l.i l.pads))
