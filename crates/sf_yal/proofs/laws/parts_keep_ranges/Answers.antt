use Rattle.sf_yal.proofs.Ranges.{parts_sized, parts_in_range}
use Rattle.sf_yal.proofs.laws.parts_keep_ranges.Goals as goal

pub returns-clause-sizes : goal.returns-clause-sizes
returns-clause-sizes c = parts_sized

pub returns-clause-pins : goal.returns-clause-pins
returns-clause-pins c = parts_in_range
