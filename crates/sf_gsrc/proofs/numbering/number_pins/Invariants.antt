use Rattle.std.proofs.Common.{◌≡◌, List, map, take, drop, ◌++◌}
use Rattle.sf_gsrc.proofs.Common.{block_names, pad_names, RawBlock, RawPad, numbered_pin, AreOwners}
use Rattle.sf_gsrc.proofs.numbering.number_pins.Given as goal

abbrev pub invariant-loop-pin : goal.invariant-loop-pin
invariant-loop-pin l = (blocks : List RawBlock) (pads : List RawPad) → AreOwners l.owners (block_names blocks) (pad_names pads) → l.pin-items ≡ map (numbered_pin blocks pads) (take l.pin-index l.fn.pins.items) ++ drop l.pin-index l.fn.pins.items
