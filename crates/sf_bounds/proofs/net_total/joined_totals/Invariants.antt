use Rattle.std.proofs.Common.{◌≡◌, ◌≤◌, ◌*◌, take}
use Rattle.sf_bounds.proofs.Common.{sum_by, Hull, net_part, weighed_part, pins_by, weighed_nets, weighed_lefts}
use Rattle.sf_bounds.proofs.net_total.joined_totals.Given as goal

abbrev pub invariant-loop-net : goal.invariant-loop-net
invariant-loop-net l = record {
  sum : l.sum ≡ sum_by (weighed_part l.design l.node) (take l.net (weighed_nets l.design));
  small : l.sum ≤ 714000000000 * l.net;
  hull : l.hull ≡ sum_by (λ n. n.weight * pins_by l.design l.node n.pins Hull) (take l.net (weighed_nets l.design));
  small_hull : l.hull ≤ 714000000000 * l.net;
  rest : l.rest ≡ sum_by (λ n. n.0 * net_part l.design l.node n.1) (take l.net (weighed_lefts l.design));
  small_rest : l.rest ≤ 714000000000 * l.net;
}
