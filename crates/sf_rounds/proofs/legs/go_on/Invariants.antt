use Rattle.sf_rounds.proofs.Gone.{Goes}
use Rattle.sf_rounds.proofs.legs.go_on.Given as goal

abbrev pub invariant-loop-budget : goal.invariant-loop-budget
invariant-loop-budget g l = Goes l.fn.design (g.B.Values.value l.fn.bounds l.fn.design) (g.B.Bounds.part_value l.fn.bounds l.fn.design) l.fn.stretches.items l.fn.value l.fn.options.nodes l.budget l.leg

abbrev pub decreases-loop-budget : goal.decreases-loop-budget
decreases-loop-budget g l = l.budget
