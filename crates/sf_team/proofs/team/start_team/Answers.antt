use Rattle.sf_team.proofs.Moves.{begins}
use Rattle.sf_team.proofs.team.start_team.Goals as goal

pub bounded_with-requires-clause-rule : goal.bounded_with-requires-clause-rule
bounded_with-requires-clause-rule g c = begins
