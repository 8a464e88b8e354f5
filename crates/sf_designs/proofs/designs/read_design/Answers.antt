use Rattle.sf_designs.proofs.Stages.{uncounted}
use Rattle.sf_designs.proofs.designs.read_design.Goals as goal

pub returns-clause-shelf : goal.returns-clause-shelf
returns-clause-shelf g c = (c.in_ok-admitted.ensures.shelf.0, uncounted c.make_design.result _ _ c.make_design.ensures.tells)
