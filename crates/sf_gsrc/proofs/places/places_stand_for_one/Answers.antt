use Rattle.sf_gsrc.proofs.PlaceLaws.{stands_once_only}
use Rattle.sf_gsrc.proofs.places.places_stand_for_one.Goals as goal

pub returns : goal.returns
returns c = stands_once_only
