use Rattle.std.proofs.Common.{arith, subst}
use Rattle.sf_wire.proofs.Common.{clamps, ints, to_z-of_z, LiesIn}
use Rattle.sf_wire.proofs.wires.point_of.Goals as goal

pub returns-in-Block-clause-near_x : goal.returns-in-Block-clause-near_x
returns-in-Block-clause-near_x c =
    let outline = c.args.design.now.outline in
    let limits = c.args.design.now.limits in
    let k = c.spot_at-spot.ensures.listed in
    let lies : LiesIn outline c.spot_at-spot.result = subst (LiesIn outline) k.2 (c.requires.legal.inside k.0 c.spot_at-spot.result k.1) in
    record {
      low = grind (arith, ints, clamps, to_z-of_z, lies.left, lies.right, limits.width, c.from-in-Block.ensures);
      high = grind (arith, ints, clamps, to_z-of_z, lies.left, lies.right, limits.width, c.from-in-Block.ensures);
    }

pub returns-in-Block-clause-near_y : goal.returns-in-Block-clause-near_y
returns-in-Block-clause-near_y c =
    let outline = c.args.design.now.outline in
    let limits = c.args.design.now.limits in
    let k = c.spot_at-spot.ensures.listed in
    let lies : LiesIn outline c.spot_at-spot.result = subst (LiesIn outline) k.2 (c.requires.legal.inside k.0 c.spot_at-spot.result k.1) in
    record {
      low = grind (arith, ints, clamps, to_z-of_z, lies.below, lies.above, limits.height, c.from-in-Block-2.ensures);
      high = grind (arith, ints, clamps, to_z-of_z, lies.below, lies.above, limits.height, c.from-in-Block-2.ensures);
    }
