use Rattle.std.proofs.Common.{◌≡◌, map, take}
use Rattle.sf_parts.proofs.Common.{AllZip, IsNetMade}
use Rattle.sf_parts.proofs.nets.nets_in.Given as goal

abbrev pub invariant-loop-number : goal.invariant-loop-number
invariant-loop-number l = record {
  made : AllZip (IsNetMade l.admitted.index.parts.now) (take l.number l.admitted.index.parts.now.nets) l.nets.items;
  weights : map (λ n. n.weight) l.nets.items ≡ take l.number l.weights;
}
