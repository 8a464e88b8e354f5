use Rattle.sf_team.proofs.Moves.{forks}
use Rattle.sf_team.proofs.start.start.Goals as goal

pub another-theirs-requires-clause-rule : goal.another-theirs-requires-clause-rule
another-theirs-requires-clause-rule g c = forks _ _
