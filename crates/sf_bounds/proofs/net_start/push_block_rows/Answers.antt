use Rattle.std.proofs.Common.{◌<◌, get_or, ap, ◌∙◌, arith}
use Rattle.sf_bounds.proofs.Common.{block_count, Extent}
use Rattle.sf_bounds.proofs.NetStarted.{block-more}
use Rattle.sf_bounds.proofs.net_start.push_block_rows.Goals as goal

pub loop-block-preserved : goal.loop-block-preserved
loop-block-preserved c =
    let D = c.args.design.now in
    let b = c.loop-block.block in
    let none : Extent = record { least_w = 0; most_w = 0; least_h = 0; most_h = 0 } in
    let lt : b < block_count D = omega (arith, c.loop-block-test.true, c.block_count-block-end.ensures) in
    block-more D b c.loop-block.cells.items c.push_block_row.new.cells.items c.loop-block.blocks.items c.push.new.self.items _ c.loop-block.invariant lt
    (ap (λ i. get_or c.args.extents.now i none) c.from.ensures ∙ c.requires.extents.each b none lt)
    (omega (arith, c.len-row.ensures)) c.in_ok-push_block_row.ensures c.in_ok-push.ensures.items
