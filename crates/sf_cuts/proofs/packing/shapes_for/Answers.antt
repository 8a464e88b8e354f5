use Rattle.std.proofs.Common.{◌+◌, arith, sym, subst}
use Rattle.sf_cuts.specs.Packed.{HasShapeFor, IsShapeFor}
use Rattle.sf_cuts.proofs.Shapes.{AreFirstShapesFor, by_mark, shapes_more, without_mark}
use Rattle.sf_cuts.proofs.packing.shapes_for.Goals as goal

pub returns-in-None-clause-unlisted : goal.returns-in-None-clause-unlisted
returns-in-None-clause-unlisted c =
    let design = c.args.design.now in
    let soft = c.args.soft.now in
    let b = c.loop-block.block in
    record {
      in_range = omega (arith, c.loop-block-test.true);
      without = subst (λ s. ¬ (HasShapeFor design soft s)) c.spot_at.ensures.spot (without_mark design soft c.spot_at.result b c.spot_at.ensures.block c.in-None.ensures);
      before = λ a h. (c.loop-block.invariant.each a h).0;
    }

pub loop-block-preserved : goal.loop-block-preserved
loop-block-preserved c =
    let design = c.args.design.now in
    let soft = c.args.soft.now in
    let spots = c.args.spots.now in
    let b = c.loop-block.block in
    let has = by_mark design soft c.spot_at.result b c.spot_at.ensures.block c.in-Some.ensures.0 in
    subst (AreFirstShapesFor design soft spots (b + 1)) (sym c.in_ok-push-in-Some.ensures.items)
    (shapes_more design soft spots b c.loop-block.shapes.items c.in-Some.shape c.loop-block.invariant (subst (HasShapeFor design soft) c.spot_at.ensures.spot has)
    (subst (λ s. IsShapeFor design s c.in-Some.shape) c.spot_at.ensures.spot c.in-Some.ensures.1))
