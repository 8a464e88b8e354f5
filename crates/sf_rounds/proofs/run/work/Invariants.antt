use Rattle.sf_rounds.proofs.Common.{Worked}
use Rattle.sf_rounds.proofs.run.work.Given as goal

abbrev pub invariant-loop : goal.invariant-loop
invariant-loop g l = Worked l.fn.design (g.B.Values.value l.fn.bounds l.fn.design) (g.B.Bounds.part_value l.fn.bounds l.fn.design) l.fn.member l.member
