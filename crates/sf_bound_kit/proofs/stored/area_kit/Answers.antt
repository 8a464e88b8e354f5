use Rattle.sf_bound_kit.proofs.Apart.{pair-area-below}
use Rattle.sf_bound_kit.proofs.stored.area_kit.Goals as goal

pub new-requires-clause-below : goal.new-requires-clause-below
new-requires-clause-below c κs = pair-area-below
