use Rattle.sf_gsrc.proofs.NetLaws.{stands_once_only}
use Rattle.sf_gsrc.proofs.nets.nets_stand_for_one.Goals as goal

pub returns : goal.returns
returns c = stands_once_only
