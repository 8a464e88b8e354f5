use Rattle.sf_model.specs.Tree.{tree_of}
use Rattle.sf_subsets.proofs.Sizes.{legal-few, legal-sides}
use Rattle.sf_known.proofs.packing.priced.Goals as goal

pub fits-requires-clause-few : goal.fits-requires-clause-few
fits-requires-clause-few c = legal-few c.args.design.now (tree_of c.args.plan.now) c.requires.legal

pub fits-requires-clause-sides : goal.fits-requires-clause-sides
fits-requires-clause-sides c = legal-sides c.args.design.now (tree_of c.args.plan.now) c.requires.legal
