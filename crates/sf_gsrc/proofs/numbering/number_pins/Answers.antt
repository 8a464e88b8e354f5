use Rattle.std.proofs.Common.{arith}
use Rattle.std.proofs.lemmas.List.Edits.{map_over_more}
use Rattle.sf_gsrc.proofs.Common.{numbered_pin}
use Rattle.sf_gsrc.proofs.numbering.number_pins.Goals as goal

pub loop-pin-preserved : goal.loop-pin-preserved
loop-pin-preserved c = λ blocks pads are.
    rw (c.number.ensures blocks pads are, ← c.pin-item.is) (map_over_more (numbered_pin blocks pads) c.args.pins.now.items c.loop-pin.pin-items c.loop-pin.pin-index c.pin-item.result (omega arith) (c.loop-pin.invariant blocks pads are) c.pin-item.is)
