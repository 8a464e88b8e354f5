use Rattle.std.proofs.Common.{◌≡◌, ◌++◌, map, take}
use Rattle.sf_bounds.proofs.Common.{block_cell, of_weight}
use Rattle.sf_bounds.proofs.net_start.push_block_row.Given as goal

abbrev pub invariant-loop-net : goal.invariant-loop-net
invariant-loop-net l = l.cells.items ≡ l.initial.cells.items ++ map (block_cell l.block l.extent) (of_weight (take l.net-index l.design.nets))
