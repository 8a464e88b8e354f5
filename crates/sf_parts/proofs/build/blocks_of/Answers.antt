use Rattle.std.proofs.Common.{◌≡◌, length, arith}
use Rattle.sf_parts.proofs.Common.{design_blocks}
use Rattle.sf_parts.proofs.Moved.{moved, blocks_cut}
use Rattle.sf_parts.proofs.build.blocks_of.Goals as goal

pub loop-block-preserved-in-Continue-branch-2 : goal.loop-block-preserved-in-Continue-branch-2
loop-block-preserved-in-Continue-branch-2 c =
    let a = c.in-Some.ensures.len in
    let b = c.in-Some-pop.ensures.len in
    let same : length c.pop.new.self.items ≡ length c.pop-in-Some.new.self.items = omega (arith, c.loop-block.invariant.0) in
    (omega (arith, c.loop-block.invariant.0), moved (design_blocks c.loop-block.read.items c.loop-block.left.items) (design_blocks c.pop.new.self.items c.pop-in-Some.new.self.items) c.loop-block.blocks.items c.push.new.self.items _ _ (blocks_cut c.loop-block.read.items c.pop.new.self.items c.loop-block.left.items c.pop-in-Some.new.self.items c.in-Some.block c.in-Some-pop.shapes c.in-Some.ensures.items c.in-Some-pop.ensures.items same) c.in_ok-push.ensures.items c.loop-block.invariant.1)
