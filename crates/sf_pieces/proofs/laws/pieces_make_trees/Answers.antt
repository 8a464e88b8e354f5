use Rattle.sf_pieces.proofs.Runs.{pieces-law}
use Rattle.sf_pieces.proofs.laws.pieces_make_trees.Goals as goal

pub returns : goal.returns
returns c = pieces-law
