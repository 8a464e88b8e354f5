use Rattle.std.proofs.Common.{◌^◌}
use Rattle.sf_subsets.proofs.Common.{IsTable}
use Rattle.sf_subsets.proofs.table.set_curves.Given as goal

abbrev pub invariant-loop-block : goal.invariant-loop-block
invariant-loop-block l = IsTable l.design l.budget (2 ^ l.block) l.table
