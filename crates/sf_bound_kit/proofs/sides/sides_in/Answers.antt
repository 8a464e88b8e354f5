use Rattle.std.proofs.Common.{arith, ap, length}
use Rattle.sf_bound.proofs.Spans.{span_inside}
use Rattle.sf_bound_kit.proofs.sides.sides_in.Goals as goal

pub part_sides-requires-clause-in_list : goal.part_sides-requires-clause-in_list
part_sides-requires-clause-in_list c =
    let k = span_inside c.args.design.now c.args.node.now c.args.block c.requires.subproblem c.requires.inside in
    omega (arith, k, ap (λ s. s.1) c.span-from.ensures, ap length c.shapes_of.ensures)
