use Rattle.std.proofs.Common.{arith, sym, subst}
use Rattle.sf_search_tests.proofs.Common.{AllByRecursion, IsSubproblem, subproblem-spans, split-subproblems}
use Rattle.sf_search_tests.proofs.bounds.halves.Goals as goal

pub first_wide-requires : goal.first_wide-requires
first_wide-requires c = omega (arith, subproblem-spans c.args.design.now c.args.node.now c.requires, c.args.design.now.limits.few_blocks)

pub returns : goal.returns
returns c =
    let design = c.args.design.now in
    let both = subst (AllByRecursion (IsSubproblem design)) (sym c.in_ok-pair.ensures) (split-subproblems design c.args.node.now c.in-Some.block c.requires c.in-Some.ensures.1) in
    (both.0, both.1.0)
