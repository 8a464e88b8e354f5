use Rattle.sf_bound_kit.proofs.Apart.{pair-area-below, pair-fit-below}
use Rattle.sf_bound_kit.proofs.laws.pairs_are_below.Goals as goal

pub returns-clause-area : goal.returns-clause-area
returns-clause-area c = pair-area-below

pub returns-clause-fit : goal.returns-clause-fit
returns-clause-fit c = pair-fit-below
