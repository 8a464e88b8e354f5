use Rattle.sf_parts.proofs.Determined.{determined}
use Rattle.sf_parts.proofs.laws.designs_are_determined.Goals as goal

pub returns : goal.returns
returns c = determined
