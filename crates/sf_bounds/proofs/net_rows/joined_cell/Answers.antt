use Rattle.std.proofs.Common.{arith}
use Rattle.sf_bounds.proofs.net_rows.joined_cell.Goals as goal

pub returns-clause-fit : goal.returns-clause-fit
returns-clause-fit c = record {
  near = c.joined_reach-reach.ensures.near;
  small = omega (arith, c.max.ensures, c.reach_gap-gap.ensures.small, c.requires.under.small);
  hull = omega (arith, c.max-2.ensures, c.reach_gap-gap.ensures.small, c.requires.under.hull);
}
