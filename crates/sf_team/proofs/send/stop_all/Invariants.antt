use Rattle.std.proofs.Common.{List}
use Rattle.sf_team.proofs.Common.{view, IsSeatAt, sends_on, IsCaller}
use Rattle.sf_team.proofs.send.stop_all.Given as goal

abbrev pub invariant-loop : goal.invariant-loop
invariant-loop g l = IsSeatAt (sends_on l.jobs) l.pass × ((given : List _) × IsCaller given (view l.pass)) × ((given : List _) → IsCaller given (view l.fn.pass) → IsCaller given (view l.pass))
