-- Children of subproblems.
use Rattle.std.proofs.Common.{ℕ, sym, subst}
use Rattle.sf_bound.proofs.Common.{Design, Parts, IsSubproblem, after-subproblem}
use Rattle.sf_node.specs.Later.{IsChildOf}

-- a child of a subproblem is one
pub child_of : (design : Design) (bound : Parts → ℕ) (value : ℕ) (child : Parts) → IsChildOf design bound value child → IsSubproblem design child
child_of design bound value child c = subst (IsSubproblem design) (sym c.is) (after-subproblem design c.parent c.step c.sub c.can)
