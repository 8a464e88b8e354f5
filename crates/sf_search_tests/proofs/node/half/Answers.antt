use Rattle.std.proofs.Common.{rules, sym, subst}
use Rattle.sf_search_tests.proofs.Common.{AllByRecursion, CanSplit, IsSubproblem, split-subproblems}
use Rattle.sf_search_tests.proofs.node.half.Goals as goal
use Rattle.sf_search_tests.proofs.node.half.Goals.{then-right, else-right}

pub returns : goal.returns
returns c =
    let design = c.args.design.now in
    let can : CanSplit c.args.node 1 = search rules in
    let both = subst (AllByRecursion (IsSubproblem design)) (sym c.in_ok-halves.ensures) (split-subproblems design c.args.node 1 c.requires can) in
    elim c.if-right.branch [
      | then-right w ↦ subst (IsSubproblem design) (sym w.result-is) both.1.0
      | else-right w ↦ subst (IsSubproblem design) (sym w.result-is) both.0
    ]
