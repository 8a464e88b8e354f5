use Rattle.std.proofs.Common.{◌≡◌, map, take}
use Rattle.sf_model.proofs.routing.weights_of.Given as goal

abbrev pub invariant-loop-net : goal.invariant-loop-net
invariant-loop-net l = l.weights.items ≡ map (λ n. n.weight) (take l.net-index l.nets)
