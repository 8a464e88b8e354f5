use Rattle.std.proofs.Common.{◌≡◌, take}
use Rattle.sf_parts.proofs.Common.{filter_map, pin_of}
use Rattle.sf_parts.proofs.nets.pins_of.Given as goal

abbrev pub invariant-loop-pin : goal.invariant-loop-pin
invariant-loop-pin l = l.all.items ≡ filter_map (pin_of l.index.parts.now) (take l.pin-index l.pins)
