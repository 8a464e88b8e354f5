use Rattle.sf_designs.proofs.Stages.{uncounted}
use Rattle.sf_designs.proofs.designs.read_admitted.Goals as goal

pub returns-clause-shelf : goal.returns-clause-shelf
returns-clause-shelf g c = (c.in_ok-weighed.ensures.shelf.0, uncounted c.admit.result _ _ c.admit.ensures.tells)
