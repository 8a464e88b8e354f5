use Rattle.std.proofs.Common.{sym}
use Rattle.sf_place.proofs.Common.{get_or_default}
use Rattle.sf_place.proofs.Numbered.{spot_of_numbered, block_numbered}
use Rattle.sf_place.proofs.placing.spot_at.Goals as goal

pub returns-clause-spot : goal.returns-clause-spot
returns-clause-spot c = sym (spot_of_numbered c.args.spots.now c.args.block _ c.requires.by_number c.requires.in_range)

pub returns-clause-block : goal.returns-clause-block
returns-clause-block c = block_numbered c.args.spots.now c.args.block _ c.requires.by_number c.requires.in_range

pub returns-clause-listed : goal.returns-clause-listed
returns-clause-listed c = (c.args.block, c.requires.in_range, get_or_default c.args.spots.now c.args.block _ _ c.requires.in_range)
