use Rattle.sf_bounds.proofs.Common.{AreBlockRows}
use Rattle.sf_bounds.proofs.net_start.push_block_rows.Given as goal

abbrev pub invariant-loop-block : goal.invariant-loop-block
invariant-loop-block l = AreBlockRows l.design l.block l.cells.items l.blocks.items
