use Rattle.std.proofs.Common.{arith}
use Rattle.sf_parts.proofs.Common.{common_steps, filter_map-append}
use Rattle.sf_parts.proofs.nets.pins_of.Goals as goal

pub loop-pin-preserved : goal.loop-pin-preserved
loop-pin-preserved c = grind (arith, common_steps, filter_map-append)
