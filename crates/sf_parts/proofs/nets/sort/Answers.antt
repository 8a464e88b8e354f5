use Rattle.std.proofs.Common.{rules}
use Rattle.sf_parts.proofs.Common.{IsNonDecreasingBy-from_sort_by_key, pin_order}
use Rattle.sf_parts.proofs.nets.sort.Goals as goal

pub returns-clause-ascending : goal.returns-clause-ascending
returns-clause-ascending c = IsNonDecreasingBy-from_sort_by_key pin_order c.sort_unstable_by_key.new.self.items c.sort_unstable_by_key.ensures.sorted (λ a r q k. search rules)
