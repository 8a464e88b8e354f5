use Rattle.std.proofs.Common.{All, arith, sym, subst}
use Rattle.sf_search_tests.proofs.Common.{All-get_or, All-from_recursion, IsSubproblem, extended, extended-subproblems}
use Rattle.sf_search_tests.proofs.nodes.child.Goals as goal

pub returns-then-place-len : goal.returns-then-place-len
returns-then-place-len c =
    let design = c.args.design.now in
    let node = c.args.node.now in
    let children = subst (All (IsSubproblem design)) (sym c.in_ok-children.ensures) (All-from_recursion (IsSubproblem design) (extended node) (extended-subproblems design node c.requires)) in
    subst (IsSubproblem design) (sym c.remove.ensures.value)
    (All-get_or (IsSubproblem design) c.in_ok-children.children.items c.args.place c.remove.result (omega (arith, c.if-place-len.true, c.len.ensures)) children)
