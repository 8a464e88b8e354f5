use Rattle.std.proofs.Common.{arith}
use Rattle.sf_wire.proofs.Common.{pos, ints}
use Rattle.sf_wire.proofs.Ends.{right_end_more, upper_end_more}
use Rattle.sf_wire.proofs.costs.spots_size.Goals as goal

pub loop-spot-preserved : goal.loop-spot-preserved
loop-spot-preserved c =
    let spots = c.args.spots.now in
    let i = c.loop-spot.spot-index in
    let near = c.requires i (record { block = 0; x = pos 0; y = pos 0; w = 0; h = 0 }) c.loop-spot-test.true in
    let was = c.loop-spot.invariant in
    let x = near.left in let x' = near.right in let y = near.lower in let y' = near.upper in
    record {
      right_end = omega (arith, ints, c.max-right.ensures, c.unsigned_abs.ensures.value, c.from.ensures, right_end_more spots i (record { block = 0; x = pos 0; y = pos 0; w = 0; h = 0 }) c.loop-spot-test.true);
      upper_end = omega (arith, ints, c.max-upper.ensures, c.unsigned_abs-in-loop-spot.ensures.value, c.from-in-loop-spot.ensures, upper_end_more spots i (record { block = 0; x = pos 0; y = pos 0; w = 0; h = 0 }) c.loop-spot-test.true);
    }
