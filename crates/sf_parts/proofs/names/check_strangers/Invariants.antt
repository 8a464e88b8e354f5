use Rattle.std.proofs.Common.{◌≡◌, drop}
use Rattle.sf_parts.proofs.Common.{flat_map, first, rule_faults, Known}
use Rattle.sf_parts.proofs.names.check_strangers.Given as goal

abbrev pub invariant-loop-name : goal.invariant-loop-name
invariant-loop-name l = first (flat_map (rule_faults Known l.index.parts.now) l.names) ≡ first (flat_map (rule_faults Known l.index.parts.now) (drop l.name-index l.names))
