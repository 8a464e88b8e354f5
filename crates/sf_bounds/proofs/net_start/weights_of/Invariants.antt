use Rattle.std.proofs.Common.{◌≡◌, take}
use Rattle.sf_bounds.proofs.Common.{weights_of}
use Rattle.sf_bounds.proofs.net_start.weights_of.Given as goal

abbrev pub invariant-loop-net : goal.invariant-loop-net
invariant-loop-net l = l.weights.items ≡ weights_of (take l.net-index l.nets)
