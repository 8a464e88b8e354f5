use Rattle.sf_standard.proofs.ByPart.{nets-below, without-paths}
use Rattle.sf_standard.proofs.laws.paths_only_raise.Goals as goal

pub returns : goal.returns
returns c = record { above = nets-below; none = without-paths }
