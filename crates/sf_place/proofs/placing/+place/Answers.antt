use Rattle.std.proofs.Common.{arith, ap}
use Rattle.sf_place.proofs.Common.{leaf_count, tree_of}
use Rattle.sf_place.proofs.placing.+place.Goals as goal

pub returns-in-Leaf-clause-narrow : goal.returns-in-Leaf-clause-narrow
returns-in-Leaf-clause-narrow t c = omega (arith, ap (λ p. leaf_count (tree_of p)) c.in-Leaf.is)
