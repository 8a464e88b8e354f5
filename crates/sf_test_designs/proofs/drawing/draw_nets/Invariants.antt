use Rattle.std.proofs.Common.{◌≡◌, ◌*◌, ◌≤◌, length, sum_by, All}
use Rattle.sf_model.specs.Limits.{IsPinSet}
use Rattle.sf_test_designs.proofs.drawing.draw_nets.Given as goal

abbrev pub invariant-loop-number : goal.invariant-loop-number
invariant-loop-number l = record {
  count : length l.nets.items ≡ l.number;
  few : sum_by (λ n. length n.pins) l.nets.items ≤ 3 * l.number;
  pins : All (λ n. IsPinSet l.count 4 n.pins) l.nets.items;
  weights : All (λ n. n.weight ≡ 1) l.nets.items;
}
