use Rattle.std.proofs.Common.{arith, subst}
use Rattle.sf_frames.proofs.Common.{IsLeastOf}
use Rattle.sf_frames.proofs.AreaParts.{summed_item, item_area_small, product_small}
use Rattle.sf_frames.proofs.area.area_part.Goals as goal

pub overflow_add-sum : goal.overflow_add-sum
overflow_add-sum c =
    let small = item_area_small c.args.curves.now c.loop-curve.curve-index c.in_ok-room.room c.curve-item.result c.requires.small (omega arith) c.curve-item.is (subst (λ v. IsLeastOf v c.in_ok-room.room) c.points.ensures.is c.in_ok-room.ensures) in
    omega (arith, small, c.loop-curve.invariant.bound, c.requires.few)

pub loop-curve-preserved : goal.loop-curve-preserved
loop-curve-preserved c =
    summed_item c.args.curves.now c.loop-curve.curve-index c.loop-curve.sum c.loop-curve.w c.loop-curve.h c.max-w.result c.max-h.result c.in_ok-room.room c.curve-item.result c.requires.small (omega arith) c.loop-curve.invariant c.curve-item.is (subst (λ v. IsLeastOf v c.in_ok-room.room) c.points.ensures.is c.in_ok-room.ensures) c.max-w.ensures c.max-h.ensures

pub overflow_mul-from : goal.overflow_mul-from
overflow_mul-from c =
    let small = product_small c.loop-curve.w c.loop-curve.h c.loop-curve.invariant.narrow c.loop-curve.invariant.flat in
    rw (c.from.ensures, c.from-2.ensures) (omega (arith, small))
