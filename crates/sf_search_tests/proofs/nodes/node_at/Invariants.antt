use Rattle.sf_search_tests.proofs.Common.{IsSubproblem}
use Rattle.sf_search_tests.proofs.nodes.node_at.Given as goal

abbrev pub invariant-loop-place : goal.invariant-loop-place
invariant-loop-place l = IsSubproblem l.design l.node
