use Rattle.std.proofs.Common.{◌+◌, ◌^◌}
use Rattle.sf_subsets.proofs.Common.{IsTable}
use Rattle.sf_subsets.proofs.table.add_block.Given as goal

abbrev pub invariant-loop-rest : goal.invariant-loop-rest
invariant-loop-rest l = IsTable l.design l.budget (2 ^ l.block + l.rest) l.table
