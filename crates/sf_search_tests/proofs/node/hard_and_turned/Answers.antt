use Rattle.std.proofs.Common.{List, [], length, ap, ◌∙◌, slice_index_or}
use Rattle.sf_search_tests.proofs.Common.{Block}
use Rattle.sf_search_tests.proofs.TwoLeaves.{only-shape, second-shape, two-legal}
use Rattle.sf_search_tests.proofs.node.hard_and_turned.Goals as goal

pub returns-clause-legal : goal.returns-clause-legal
returns-clause-legal c =
    let none : Block = record { name = []; shapes = [] } in
    let are = c.in_ok-design.ensures ∙ c.in_ok-vec-2.ensures.items in
    two-legal _ (record { w = 2; h = 3 }) (record { w = 3; h = 2 }) _ (ap length are)
    (only-shape _ _ (ap (λ (bs : List Block). (slice_index_or bs 0 none).shapes) are ∙ c.in_ok-first.ensures))
    (second-shape _ _ _ (ap (λ (bs : List Block). (slice_index_or bs 1 none).shapes) are ∙ c.in_ok-second.ensures ∙ c.in_ok-vec.ensures.items))
    c.in_ok-plan.ensures
