use Rattle.std.proofs.Common.{◌∙◌}
use Rattle.sf_bounds.proofs.NetTotal.{same-ranges, same-pairs}
use Rattle.sf_bounds.proofs.net_total.steady_sums.Goals as goal

pub returns-clause-range : goal.returns-clause-range
returns-clause-range c = c.requires.kept.ranges ∙ same-ranges c.args.design.now c.args.node.now c.requires.subproblem c.requires.whole

pub returns-clause-pair : goal.returns-clause-pair
returns-clause-pair c = c.requires.kept.pairs ∙ same-pairs c.args.design.now c.args.node.now c.requires.subproblem c.requires.whole
