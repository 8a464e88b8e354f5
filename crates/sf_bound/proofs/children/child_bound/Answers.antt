use Rattle.sf_bound.proofs.ChildOf.{child_of}
use Rattle.sf_bound.proofs.children.child_bound.Goals as goal

pub bound-requires-clause-subproblem : goal.bound-requires-clause-subproblem
bound-requires-clause-subproblem g c = child_of c.args.design.now (g.B.Values.value c.args.bounds.now c.args.design.now) c.args.value c.args.child.now c.requires.child
