use Rattle.std.proofs.Common.{◌≡◌, true, take, All}
use Rattle.sf_measuring.proofs.Common.{is_some, Block, value_in}
use Rattle.sf_measuring.proofs.Placing.{HasNoLine}
use Rattle.sf_measuring.proofs.placed_lines.index_blocks.Given as goal

abbrev pub invariant-loop-block : goal.invariant-loop-block
invariant-loop-block l = record {
  names : All (λ (block : Block). is_some (value_in l.index block.name) ≡ true) (take l.block-index l.blocks);
  none : HasNoLine l.index;
}
