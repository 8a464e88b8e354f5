use Rattle.sf_cuts.proofs.Parts.{part_of_some}
use Rattle.sf_cuts.proofs.laws.cut_placements_have_cut_parts.Goals as goal

pub returns : goal.returns
returns c = part_of_some
