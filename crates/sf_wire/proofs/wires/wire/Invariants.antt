use Rattle.std.proofs.Common.{◌≡◌, ◌≤◌, ◌*◌, ◌^◌, take}
use Rattle.sf_wire.proofs.Common.{sum_by, weighed_wire}
use Rattle.sf_wire.proofs.wires.wire.Given as goal

abbrev pub invariant-loop-net : goal.invariant-loop-net
invariant-loop-net l = record {
  sum : l.total ≡ sum_by (weighed_wire l.design l.spots) (take l.net-index l.net-items);
  bounded : l.total ≤ 255 * 2 ^ 23 * l.net-index;
}
