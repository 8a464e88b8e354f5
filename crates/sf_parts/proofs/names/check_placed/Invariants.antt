use Rattle.std.proofs.Common.{◌≡◌, drop}
use Rattle.sf_parts.proofs.Common.{flat_map, first, at_placed_name, rule_faults, NotBoth}
use Rattle.sf_parts.proofs.names.check_placed.Given as goal

abbrev pub invariant-loop-pad : goal.invariant-loop-pad
invariant-loop-pad l = first (flat_map (at_placed_name (rule_faults NotBoth l.index.parts.now)) l.pads) ≡ first (flat_map (at_placed_name (rule_faults NotBoth l.index.parts.now)) (drop l.pad-index l.pads))
