use Rattle.sf_worker.proofs.Common.{IsWalkedInto}
use Rattle.sf_worker.proofs.walking.walk_over.Given as goal

abbrev pub invariant-loop-rest : goal.invariant-loop-rest
invariant-loop-rest g l =
    IsWalkedInto l.fn.design (g.B.Values.value l.fn.bounds l.fn.design) (g.B.Bounds.part_value l.fn.bounds l.fn.design) l.fn.stretch l.fn.state l.state l.rest
    × g.B.Bounds.serves l.room l.fn.design

abbrev pub decreases-loop-rest : goal.decreases-loop-rest
decreases-loop-rest g l = l.state.quota
