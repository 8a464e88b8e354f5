use Rattle.sf_gsrc.proofs.Ranges.{joined_sizes, joined_pins, joined_nets}
use Rattle.sf_gsrc.proofs.laws.joined_parts_keep_ranges.Goals as goal

pub returns-clause-sizes : goal.returns-clause-sizes
returns-clause-sizes c = joined_sizes

pub returns-clause-pins : goal.returns-clause-pins
returns-clause-pins c = joined_pins

pub returns-clause-nets : goal.returns-clause-nets
returns-clause-nets c = joined_nets
