use Rattle.sf_standard.proofs.ByPart as part
use Rattle.sf_standard.proofs.laws.areas_are_all.Goals as goal

pub returns : goal.returns
returns c = part.areas_are_all
