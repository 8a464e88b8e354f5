use Rattle.sf_standard.proofs.ByPart as part
use Rattle.sf_standard.proofs.laws.standard_is_open.Goals as goal

pub returns : goal.returns
returns c = part.standard_is_open
