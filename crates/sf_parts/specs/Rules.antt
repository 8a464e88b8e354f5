-- The two rules that a name may break.
use Rattle.std.specs.Prelude.{ℕ, List}
use Rattle.sf_parts.specs.Admitted.{if_both, if_neither}
use Rattle.sf_parts.specs.declared.fault.BuildFault.{BuildFault}
use Rattle.sf_parts.specs.declared.names.NameRule.{NameRule}
use Rattle.sf_parts.specs.declared.names.NameRule.TheVariants.{NotBoth, Known}
use Rattle.sf_parts.specs.declared.raw.Parts.{Parts}

-- the fault of a name by a rule
abbrev pub rule_faults : NameRule → Parts → List ℕ → List BuildFault
rule_faults NotBoth parts n = if_both parts n
rule_faults Known parts n = if_neither parts n
