use Rattle.std.proofs.Common.{[], drop, map}
use Rattle.sf_gsrc.proofs.Common.{AreOwners, AreOwnersFrom}
use Rattle.sf_gsrc.proofs.owners.Owners.put_blocks.Given as goal

abbrev pub invariant-loop-i : goal.invariant-loop-i
invariant-loop-i l = AreOwners l.initial.self [] [] → AreOwnersFrom l.self l.i (map (λ b. b.name) (drop l.i l.blocks)) 0 []
