use Rattle.std.proofs.Common.{◌≡◌, drop}
use Rattle.sf_parts.proofs.Common.{flat_map, first, at_pin_name, rule_faults, RawNet}
use Rattle.sf_parts.proofs.names.check_nets.Given as goal

abbrev pub invariant-loop-net : goal.invariant-loop-net
invariant-loop-net l = first (flat_map (λ (n : RawNet). flat_map (at_pin_name (rule_faults l.rule l.index.parts.now)) n.pins) l.nets) ≡ first (flat_map (λ (n : RawNet). flat_map (at_pin_name (rule_faults l.rule l.index.parts.now)) n.pins) (drop l.net-index l.nets))
