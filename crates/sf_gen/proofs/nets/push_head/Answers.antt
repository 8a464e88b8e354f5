use Rattle.std.proofs.Common.{length, ◌≡◌}
use Rattle.sf_gen.proofs.Common.{nets_pins, pins_of}
use Rattle.sf_gen.proofs.Counts.{all_pins, length-indexed}
use Rattle.sf_gen.proofs.nets.push_head.Goals as goal

pub returns : goal.returns
returns c =
    let nets : length (nets_pins c.args.ends.now) ≡ length c.args.ends.now = length-indexed pins_of 0 c.args.ends.now in
    rw (nets, ← all_pins c.args.ends.now, ← c.div_ceil.ensures) c.write.ensures.bytes
