use Rattle.std.proofs.Common.{arith, sym, ◌∙◌}
use Rattle.sf_frames.proofs.Common.{subproblem-spans}
use Rattle.sf_frames.proofs.UnusedCurves.{adding-more, adding-ends, adds-none}
use Rattle.sf_frames.proofs.groups.group_curves.Goals as goal

pub loop-block-preserved : goal.loop-block-preserved
loop-block-preserved c = adding-more c.args.design.now c.args.node.now c.loop-block.curves.items c.push_unused.new.curves.items c.loop-block.block c.loop-block.invariant c.in_ok-push_unused.ensures

pub returns : goal.returns
returns c =
    adding-ends c.args.design.now c.args.node.now c.loop-block.curves.items c.loop-block.block
    (omega (arith, c.loop-block.auto.block-end, c.loop-block-test.false, c.block_count-blocks.ensures, subproblem-spans c.args.design.now c.args.node.now c.requires)) c.loop-block.invariant

pub returns-then-is_complete : goal.returns-then-is_complete
returns-then-is_complete c = adds-none c.args.design.now c.args.node.now c.item_curves.new.curves.items c.requires (sym c.is_complete.ensures ∙ c.if-is_complete.true) c.in_ok-item_curves.ensures
