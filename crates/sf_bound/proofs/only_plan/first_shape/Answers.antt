use Rattle.std.proofs.Common.{arith, ap, length}
use Rattle.sf_bound.proofs.Spans.{span_some, span_inside}
use Rattle.sf_bound.proofs.only_plan.first_shape.Goals as goal

pub shape_at-requires : goal.shape_at-requires
shape_at-requires c =
    let k = span_inside c.args.design.now c.args.node.now c.args.block c.requires.subproblem c.requires.inside in
    let s = span_some c.args.design.now c.args.node.now c.args.block c.requires.subproblem c.requires.inside in
    omega (arith, k, s, ap (λ s. s.0) c.span-from.ensures, ap length c.shapes_of.ensures)
