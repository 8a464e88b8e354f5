use Rattle.std.proofs.Common.{rules}
use Rattle.sf_cuts.proofs.Sorting.{in_order_from_sort}
use Rattle.sf_cuts.proofs.parting.in_order.Goals as goal

pub returns-clause-ordered : goal.returns-clause-ordered
returns-clause-ordered c = in_order_from_sort c.args.axis c.sort_unstable_by_key.new.self.items c.sort_unstable_by_key.ensures.sorted (λ a r q k. search rules)
