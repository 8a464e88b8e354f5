use Rattle.sf_team.proofs.Common.{view, IsSeatAt, receives_on, AreAnswers}
use Rattle.sf_team.proofs.work.work.Given as goal

abbrev pub invariant-loop : goal.invariant-loop
invariant-loop g l = IsSeatAt (receives_on l.jobs) l.pass × AreAnswers g.W.Gives.gives (view l.pass).taken l.all.items
