use Rattle.std.proofs.Common.{rules}
use Rattle.sf_curves.proofs.Sorting.{in_order_from_sort}
use Rattle.sf_curves.proofs.of_shapes.copy_in_order.Goals as goal

pub returns-clause-sorted : goal.returns-clause-sorted
returns-clause-sorted c = in_order_from_sort c.sort_unstable_by_key.new.self.items c.sort_unstable_by_key.ensures.sorted (λ a r q k. search rules)
