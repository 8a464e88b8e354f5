use Rattle.sf_designs.proofs.Stages.{uncounted}
use Rattle.sf_designs.proofs.reading.read_nets_file.Goals as goal

pub returns-clause-shelf : goal.returns-clause-shelf
returns-clause-shelf g c = (c.in_ok-text.ensures.shelf.0, uncounted c.parse_nets.result _ _ c.parse_nets.ensures.tells)
