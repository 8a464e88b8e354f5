use Rattle.std.proofs.Common.{◌≡◌, ℕ, ◌*◌, ◌^◌, ◌<◌, ◌≤◌, ap, ◌∙◌, arith}
use Rattle.sf_bounds.proofs.Common.{Range, Pair, Hull, Full, wires_by}
use Rattle.sf_bounds.proofs.PartCosts.{cost-small}
use Rattle.sf_bounds.proofs.parts.costs_of.Goals as goal

pub overflow_mul-result : goal.overflow_mul-result
overflow_mul-result c =
    let d = c.args.design.now in
    let n = c.args.node.now in
    omega (arith, cost-small c.from-weight.result c.args.wires.range (wires_by d n Range) (omega (arith, c.from-weight.ensures, d.limits.wire_weight)) c.requires.wires.range (c.wires_are_bounded.ensures d n Range c.requires.plans))

pub overflow_mul-result-2 : goal.overflow_mul-result-2
overflow_mul-result-2 c =
    let d = c.args.design.now in
    let n = c.args.node.now in
    omega (arith, cost-small c.from-weight.result c.args.wires.pair (wires_by d n Pair) (omega (arith, c.from-weight.ensures, d.limits.wire_weight)) c.requires.wires.pair (c.wires_are_bounded.ensures d n Pair c.requires.plans))

pub overflow_mul-result-3 : goal.overflow_mul-result-3
overflow_mul-result-3 c =
    let d = c.args.design.now in
    let n = c.args.node.now in
    omega (arith, cost-small c.from-weight.result c.args.wires.hull (wires_by d n Hull) (omega (arith, c.from-weight.ensures, d.limits.wire_weight)) c.requires.wires.hull (c.wires_are_bounded.ensures d n Hull c.requires.plans))

pub overflow_mul-result-4 : goal.overflow_mul-result-4
overflow_mul-result-4 c =
    let d = c.args.design.now in
    let n = c.args.node.now in
    omega (arith, cost-small c.from-weight.result c.args.wires.full (wires_by d n Full) (omega (arith, c.from-weight.ensures, d.limits.wire_weight)) c.requires.wires.full (c.wires_are_bounded.ensures d n Full c.requires.plans))

pub returns : goal.returns
returns c =
    let d = c.args.design.now in
    let n = c.args.node.now in
    let wire = d.weights.wire in
    record {
      values = record {
        range = ap (λ w. w * c.args.wires.range) c.from-weight.ensures ∙ ap (λ v. wire * v) c.requires.wires.range;
        pair = ap (λ w. w * c.args.wires.pair) c.from-weight.ensures ∙ ap (λ v. wire * v) c.requires.wires.pair;
        hull = ap (λ w. w * c.args.wires.hull) c.from-weight.ensures ∙ ap (λ v. wire * v) c.requires.wires.hull;
        full = ap (λ w. w * c.args.wires.full) c.from-weight.ensures ∙ ap (λ v. wire * v) c.requires.wires.full;
      };
      small = record {
        range = cost-small c.from-weight.result c.args.wires.range (wires_by d n Range) (omega (arith, c.from-weight.ensures, d.limits.wire_weight)) c.requires.wires.range (c.wires_are_bounded.ensures d n Range c.requires.plans);
        pair = cost-small c.from-weight.result c.args.wires.pair (wires_by d n Pair) (omega (arith, c.from-weight.ensures, d.limits.wire_weight)) c.requires.wires.pair (c.wires_are_bounded.ensures d n Pair c.requires.plans);
        hull = cost-small c.from-weight.result c.args.wires.hull (wires_by d n Hull) (omega (arith, c.from-weight.ensures, d.limits.wire_weight)) c.requires.wires.hull (c.wires_are_bounded.ensures d n Hull c.requires.plans);
        full = cost-small c.from-weight.result c.args.wires.full (wires_by d n Full) (omega (arith, c.from-weight.ensures, d.limits.wire_weight)) c.requires.wires.full (c.wires_are_bounded.ensures d n Full c.requires.plans);
      };
    }
