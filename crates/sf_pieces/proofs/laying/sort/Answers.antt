use Rattle.std.proofs.Common.{rules}
use Rattle.sf_pieces.proofs.Runs.{from_sort_by}
use Rattle.sf_pieces.proofs.laying.sort.Goals as goal

pub returns-clause-sorted : goal.returns-clause-sorted
returns-clause-sorted c = from_sort_by _ c.in_ok-sort_by.ensures.sorted (λ a r q k. search rules)
