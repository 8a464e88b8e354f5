use Rattle.sf_gsrc.proofs.Ranges.{nets_named}
use Rattle.sf_gsrc.proofs.laws.nets_name_their_pins.Goals as goal

pub returns : goal.returns
returns c = nets_named
