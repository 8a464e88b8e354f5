use Rattle.std.proofs.Common.{◌≡◌, ◌≤◌, ◌+◌, ◌++◌, length, map, All, vec_capacity}
use Rattle.sf_bounds.proofs.Common.{range_with_len, joined_cell, AreSums, IsFitCell}
use Rattle.sf_bounds.proofs.net_rows.join_rows.Given as goal

abbrev pub invariant-loop-net : goal.invariant-loop-net
invariant-loop-net l =
    let cell = joined_cell l.fn.cells.items l.direction l.by l.left l.right l.under in
    record {
      row : l.cells.items ≡ l.fn.cells.items ++ map cell (range_with_len 0 l.net);
      room : length l.cells.items + length l.weights ≤ vec_capacity l.cells + l.net;
      at : l.wires.at ≡ length l.fn.cells.items;
      sums : AreSums l.weights cell l.net l.wires;
      fit : All IsFitCell l.cells.items;
    }
