use Rattle.std.proofs.Common.{◌-◌, ◌<◌, length, subst, arith}
use Rattle.sf_standard.specs.Items as item
use Rattle.sf_frames.proofs.Common.{ways, IsLeastOrNone}
use Rattle.sf_frames.proofs.Smallness.{least-small}
use Rattle.sf_frames.proofs.Starting.{start-none, block-least, summed-more, summed-all}
use Rattle.sf_frames.proofs.top.start.Goals as goal

pub returns-in-None : goal.returns-in-None
returns-in-None c =
    let b = c.loop-rest.rest - 1 in
    let lt : b < length c.args.blocks.now = omega (arith, c.loop-rest.invariant.below, c.loop-rest-test.true) in
    λ tokens. start-none c.args.design.now tokens (length c.args.blocks.now) b c.requires.all lt
    (subst (IsLeastOrNone (ways c.args.design.now (item.Block b))) c.in-None.is (block-least c.args.design.now c.args.points.now c.args.blocks.now c.args.whole c.requires.wholes b _ lt))

pub overflow_add-area : goal.overflow_add-area
overflow_add-area c =
    let b = c.loop-rest.rest - 1 in
    let lt : b < length c.args.blocks.now = omega (arith, c.loop-rest.invariant.below, c.loop-rest-test.true) in
    let is = subst (IsLeastOrNone (ways c.args.design.now (item.Block b))) c.in-Some.is (block-least c.args.design.now c.args.points.now c.args.blocks.now c.args.whole c.requires.wholes b _ lt) in
    omega (arith, c.loop-rest.invariant.few, c.requires.all, c.args.design.now.limits.few_blocks, least-small c.args.design.now (item.Block b) c.in-Some.least is)

pub loop-rest-preserved : goal.loop-rest-preserved
loop-rest-preserved c =
    let b = c.loop-rest.rest - 1 in
    let lt : b < length c.args.blocks.now = omega (arith, c.loop-rest.invariant.below, c.loop-rest-test.true) in
    let is = subst (IsLeastOrNone (ways c.args.design.now (item.Block b))) c.in-Some.is (block-least c.args.design.now c.args.points.now c.args.blocks.now c.args.whole c.requires.wholes b _ lt) in
    summed-more c.args.design.now c.args.blocks.now c.loop-rest.rest b c.loop-rest.area c.loop-rest.w c.loop-rest.h c.max-w.result c.max-h.result c.in-Some.least (omega (arith, c.loop-rest-test.true)) c.loop-rest.invariant is
    (least-small c.args.design.now (item.Block b) c.in-Some.least is) c.max-w.ensures c.max-h.ensures

pub returns : goal.returns
returns c = λ tokens. summed-all c.args.design.now tokens c.args.blocks.now c.loop-rest.rest c.loop-rest.area c.loop-rest.w c.loop-rest.h (omega (arith, c.loop-rest-test.false)) c.requires.all c.loop-rest.invariant
