use Rattle.sf_standard.proofs.ByPart as part
use Rattle.sf_standard.proofs.laws.parts_are_below.Goals as goal

pub returns : goal.returns
returns c = part.parts_are_below
