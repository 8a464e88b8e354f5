use Rattle.std.proofs.Common.{◌≡◌, take}
use Rattle.sf_nets.proofs.Common.{shared_ranges, paired_sides, shared_homes}
use Rattle.sf_nets.proofs.pins.pin_parts.Given as goal

abbrev pub invariant-loop-pin : goal.invariant-loop-pin
invariant-loop-pin l =
    (l.range ≡ shared_ranges l.design l.table (take l.pin-index l.pins))
    × (l.pair ≡ paired_sides l.table (take l.pin-index l.pins))
    × (l.hull ≡ shared_homes l.design l.table (take l.pin-index l.pins))
