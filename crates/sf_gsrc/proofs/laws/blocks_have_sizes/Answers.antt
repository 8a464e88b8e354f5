use Rattle.sf_gsrc.proofs.Sizes.{blocks_sized}
use Rattle.sf_gsrc.proofs.laws.blocks_have_sizes.Goals as goal

pub returns : goal.returns
returns c = blocks_sized
