use Rattle.sf_subsets.proofs.Bits.{lowest-of_power}
use Rattle.sf_subsets.proofs.tracing.lowest_block.Goals as goal

pub returns : goal.returns
returns c b is = lowest-of_power c.args.set b c.ranges.set.fits is
