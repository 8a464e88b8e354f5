use Rattle.std.proofs.Common.{◌≡◌, ◌++◌, ◌*◌, ◌≤◌, map, take, length, All}
use Rattle.sf_bounds.proofs.Common.{sum_by, root, weighed_part, of_weight, start_cell, IsFitCell}
use Rattle.sf_bounds.proofs.net_start.push_start.Given as goal

abbrev pub invariant-loop-net : goal.invariant-loop-net
invariant-loop-net l = record {
  row : l.cells.items ≡ l.initial.cells.items ++ map (start_cell l.design) (of_weight (take l.net-index l.design.nets));
  sum : l.sum ≡ sum_by (weighed_part l.design (root l.design)) (take l.net-index l.design.nets);
  small : l.sum ≤ 714000000000 * length (of_weight (take l.net-index l.design.nets));
  fit : All IsFitCell l.cells.items;
}
