use Rattle.std.proofs.Common.{◌≡◌, ◌++◌, [], length, ap, ◌∙◌, subst, arith, length-append}
use Rattle.sf_frames.proofs.Common.{MatchOption, at_end, IsLeastOf}
use Rattle.sf_frames.proofs.Rooms.{block-few}
use Rattle.sf_frames.proofs.WholeSpans.{block-curve, wholes-added}
use Rattle.sf_frames.proofs.wholes.wholes.Goals as goal

pub loop-block-preserved : goal.loop-block-preserved
loop-block-preserved c =
    let D = c.args.design.now in
    let P = c.loop-block.points.items in
    let B = c.loop-block.blocks.items in
    let C = c.in_ok-curve.curve in
    let o = c.least_of-least.result in
    let i = c.loop-block.invariant in
    let curve = block-curve D c.as_slice-block-items.result.now (length B) c.loop-block.block-index c.block-item.result c.as_slice-shapes.result.now C c.as_slice-block-items.ensures c.block-item.is c.as_slice-shapes.ensures i.count (omega arith) c.in_ok-curve.ensures in
    let least = subst (λ v. MatchOption o (v ≡ []) (IsLeastOf v)) c.points.ensures.is c.least_of-least.ensures in
    record {
      whole = wholes-added D P C c.append.new.points.items B c.push.new.self.items o c.in_ok-kept.kept i.whole (omega (arith, i.count, ap length c.as_slice-block-items.ensures)) curve c.points.ensures.falls least
          (c.in_ok-kept.ensures.points ∙ ap (λ v. P ++ v) c.points-in-loop-block.ensures.is)
          (c.in_ok-kept.ensures.kept ∙ ap (λ v. at_end P v o) c.points-in-loop-block.ensures.is)
          c.in_ok-push.ensures.items;
      count = omega (arith, c.in_ok-push.ensures.len, i.count);
      few = omega (
        arith,
        i.few,
        ap length c.in_ok-kept.ensures.points,
        length-append P c.points-in-loop-block.result.now,
        ap length c.points-in-loop-block.ensures.is,
        block-few D c.as_slice-block-items.result.now c.loop-block.block-index c.block-item.result c.as_slice-shapes.result.now C c.as_slice-block-items.ensures c.block-item.is c.as_slice-shapes.ensures (omega arith) c.in_ok-curve.ensures c.points.ensures.falls,
      );
    }

pub returns-clause-few : goal.returns-clause-few
returns-clause-few c = omega (arith, c.loop-block.invariant.few, c.args.design.now.limits.few_blocks, ap length c.as_slice-block-items.ensures)
