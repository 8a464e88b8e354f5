use Rattle.std.proofs.Common.{◌≡◌, ◌≤◌, arith, length, subst, true, All}
use Rattle.sf_measuring.proofs.Common.{is_some, List, take_all, Block, value_in}
use Rattle.sf_measuring.proofs.Placing.{no_line_more, none_indexed, one_name_more}
use Rattle.sf_measuring.proofs.placed_lines.index_blocks.Goals as goal

pub loop-block-preserved : goal.loop-block-preserved
loop-block-preserved c = record {
  names = one_name_more c.args.blocks.now c.loop-block.block-index c.block-item.result c.as_bytes.result.now c.loop-block.index c.insert.new.self c.loop-block-test.true c.block-item.is c.as_bytes.ensures.value c.in_ok-insert.ensures.updates c.loop-block.invariant.names;
  none = no_line_more c.loop-block.index c.insert.new.self c.as_bytes.result.now c.in_ok-insert.ensures.updates c.loop-block.invariant.none;
}

pub returns : goal.returns
returns c = λ lines.
    let blocks = c.args.blocks.now in
    let at_end : length blocks ≤ c.loop-block.block-index = omega arith in
    record {
      names = subst (λ (all : List Block). All (λ (block : Block). is_some (value_in c.loop-block.index block.name) ≡ true) all) (take_all c.loop-block.block-index blocks at_end) c.loop-block.invariant.names;
      kept = none_indexed lines c.loop-block.index c.loop-block.invariant.none;
    }
