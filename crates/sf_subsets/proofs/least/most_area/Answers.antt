use Rattle.sf_subsets.proofs.Common.{tree_of}
use Rattle.sf_subsets.proofs.Sizes.{legal-few, legal-sides}
use Rattle.sf_subsets.proofs.least.most_area.Goals as goal

pub size-width-requires-clause-few : goal.size-width-requires-clause-few
size-width-requires-clause-few c = legal-few c.args.design.now (tree_of c.in-Some.plan) (rw c.in-Some.is at c.requires).legal

pub size-width-requires-clause-sides : goal.size-width-requires-clause-sides
size-width-requires-clause-sides c = legal-sides c.args.design.now (tree_of c.in-Some.plan) (rw c.in-Some.is at c.requires).legal
