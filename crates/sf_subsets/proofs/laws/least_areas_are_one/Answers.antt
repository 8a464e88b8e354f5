use Rattle.sf_subsets.proofs.Learned.{knowing-one}
use Rattle.sf_subsets.proofs.laws.least_areas_are_one.Goals as goal

pub returns : goal.returns
returns c = knowing-one
