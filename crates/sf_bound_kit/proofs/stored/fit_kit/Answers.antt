use Rattle.sf_bound_kit.proofs.Apart.{pair-fit-below}
use Rattle.sf_bound_kit.proofs.stored.fit_kit.Goals as goal

pub new-requires-clause-below : goal.new-requires-clause-below
new-requires-clause-below c κs = pair-fit-below
