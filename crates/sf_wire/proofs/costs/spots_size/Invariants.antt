use Rattle.std.proofs.Common.{◌≡◌, take}
use Rattle.sf_wire.proofs.Common.{right_end, upper_end}
use Rattle.sf_wire.proofs.costs.spots_size.Given as goal

abbrev pub invariant-loop-spot : goal.invariant-loop-spot
invariant-loop-spot l = record {
  right_end : l.right ≡ right_end (take l.spot-index l.spots);
  upper_end : l.upper ≡ upper_end (take l.spot-index l.spots);
}
