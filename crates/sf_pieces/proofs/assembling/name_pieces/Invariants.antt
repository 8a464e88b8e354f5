use Rattle.sf_pieces.proofs.Common.{AreNamed}
use Rattle.sf_pieces.proofs.assembling.name_pieces.Given as goal

abbrev pub invariant-loop-piece : goal.invariant-loop-piece
invariant-loop-piece l = AreNamed l.cost l.yielded l.all.items
