use Rattle.std.proofs.Common.{◌≡◌, ◌≤◌, ◌*◌, take}
use Rattle.sf_bounds.proofs.Common.{sum_by, net_part, weighed_lefts}
use Rattle.sf_bounds.proofs.net_total.open_rest.Given as goal

abbrev pub invariant-loop-net : goal.invariant-loop-net
invariant-loop-net l = record {
  rest : l.rest ≡ sum_by (λ n. n.0 * net_part l.design l.node n.1) (take l.net (weighed_lefts l.design));
  small : l.rest ≤ 714000000000 * l.net;
}
