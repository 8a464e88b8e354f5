use Rattle.std.proofs.Common.{length, arith, ap, sym, subst}
use Rattle.sf_node.proofs.Common.{shapes_of}
use Rattle.sf_node.proofs.Reached.{subproblem-spans}
use Rattle.sf_node.proofs.Spanned.{IsSpan, are-spans}
use Rattle.sf_node.proofs.belonging.is_in_span.Goals as goal

pub span-from-requires : goal.span-from-requires
span-from-requires c = omega (arith, subproblem-spans c.args.design.now c.args.node.now c.requires.subproblem)

pub is_among-requires-clause-order : goal.is_among-requires-clause-order
is_among-requires-clause-order c =
    let s = subst (IsSpan (length (shapes_of c.args.design.now c.args.block))) (sym c.span-from.ensures) ((are-spans c.args.design.now c.args.node.now c.requires.subproblem).each c.args.block c.requires.inside) in
    omega (arith, s.0)

pub is_among-requires-clause-end : goal.is_among-requires-clause-end
is_among-requires-clause-end c =
    let s = subst (IsSpan (length (shapes_of c.args.design.now c.args.block))) (sym c.span-from.ensures) ((are-spans c.args.design.now c.args.node.now c.requires.subproblem).each c.args.block c.requires.inside) in
    omega (arith, s.1, ap length c.shapes_of.ensures)
