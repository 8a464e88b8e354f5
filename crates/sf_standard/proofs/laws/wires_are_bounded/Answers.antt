use Rattle.sf_standard.proofs.ByPart.{wires-small}
use Rattle.sf_standard.proofs.laws.wires_are_bounded.Goals as goal

pub returns : goal.returns
returns c = wires-small
