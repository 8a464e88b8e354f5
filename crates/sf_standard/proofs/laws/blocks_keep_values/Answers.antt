use Rattle.sf_standard.proofs.Unmoved.{block_keeps}
use Rattle.sf_standard.proofs.laws.blocks_keep_values.Goals as goal

pub returns : goal.returns
returns c = block_keeps
