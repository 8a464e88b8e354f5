use Rattle.sf_search_tests.proofs.TwoLeaves.{only-shape, two-legal}
use Rattle.sf_search_tests.proofs.node.two_blocks.Goals as goal

pub returns-clause-legal : goal.returns-clause-legal
returns-clause-legal c =
    let pair = c.in_ok-design.ensures in
    two-legal c.in_ok-design.design (record { w = 2; h = 3 }) (record { w = 3; h = 2 }) _
    pair.count (only-shape _ _ pair.first) (only-shape _ _ pair.second) c.in_ok-plan.ensures
