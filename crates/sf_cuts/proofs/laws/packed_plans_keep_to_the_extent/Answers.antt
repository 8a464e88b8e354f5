use Rattle.sf_cuts.proofs.Extent.{packed_height, packed_width}
use Rattle.sf_cuts.proofs.laws.packed_plans_keep_to_the_extent.Goals as goal

pub returns-clause-width : goal.returns-clause-width
returns-clause-width c = packed_width

pub returns-clause-height : goal.returns-clause-height
returns-clause-height c = packed_height
