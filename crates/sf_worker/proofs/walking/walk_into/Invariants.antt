use Rattle.sf_worker.proofs.Common.{waits, Walking}
use Rattle.sf_worker.proofs.walking.walk_into.Given as goal

abbrev pub invariant-loop-state : goal.invariant-loop-state
invariant-loop-state g l =
    Walking l.fn.design (g.B.Values.value l.fn.bounds l.fn.design) (g.B.Bounds.part_value l.fn.bounds l.fn.design) l.fn.state l.state (waits l.fn.design l.fn.stretch) l.hand l.fn.stretch.cursor.node
    × g.B.Bounds.serves l.room l.fn.design

abbrev pub decreases-loop-state : goal.decreases-loop-state
decreases-loop-state g l = l.state.quota
