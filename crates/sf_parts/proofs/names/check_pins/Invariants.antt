use Rattle.std.proofs.Common.{◌≡◌, drop}
use Rattle.sf_parts.proofs.Common.{flat_map, first, at_pin_name, rule_faults}
use Rattle.sf_parts.proofs.names.check_pins.Given as goal

abbrev pub invariant-loop-pin : goal.invariant-loop-pin
invariant-loop-pin l = first (flat_map (at_pin_name (rule_faults l.rule l.index.parts.now)) l.pins) ≡ first (flat_map (at_pin_name (rule_faults l.rule l.index.parts.now)) (drop l.pin-index l.pins))
