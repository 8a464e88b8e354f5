use Rattle.std.proofs.Common.{sym, subst}
use Rattle.sf_search_tests.proofs.Common.{IsSubproblem, root-subproblem}
use Rattle.sf_search_tests.proofs.nodes.node_at.Goals as goal

pub loop-place-init : goal.loop-place-init
loop-place-init c = subst (IsSubproblem c.args.design.now) (sym c.in_ok-node.ensures) (root-subproblem c.args.design.now)
