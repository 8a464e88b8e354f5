use Rattle.std.proofs.Common.{sym, subst}
use Rattle.sf_bounds.proofs.Common.{IsFitReach}
use Rattle.sf_bounds.proofs.net_rows.joined_reach.Goals as goal

pub returns-clause-near : goal.returns-clause-near
returns-clause-near c = c.met.ensures.near c.requires.left (subst IsFitReach (sym c.pushed_reach-moved.ensures) c.requires.moved)
