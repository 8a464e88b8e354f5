use Rattle.sf_worker.proofs.Thieves.{Tried}
use Rattle.sf_worker.proofs.take.try_each.Given as goal

abbrev pub invariant-loop-i : goal.invariant-loop-i
invariant-loop-i g l = Tried l.i l.fn.thieves.items l.thieves.items
