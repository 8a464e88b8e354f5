use Rattle.sf_gsrc.proofs.WeightLaws.{stands_once_only}
use Rattle.sf_gsrc.proofs.weights.weights_stand_for_one.Goals as goal

pub returns : goal.returns
returns c = stands_once_only
