use Rattle.sf_certificate.proofs.OneTree.{one-tree}
use Rattle.sf_certificate.proofs.laws.trees_are_one.Goals as goal

pub returns : goal.returns
returns c = one-tree
