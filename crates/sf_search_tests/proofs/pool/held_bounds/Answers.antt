use Rattle.sf_pool.proofs.Core.{held_by-subproblem}
use Rattle.sf_search_tests.proofs.pool.held_bounds.Goals as goal

pub bounds_of-requires : goal.bounds_of-requires
bounds_of-requires c = held_by-subproblem c.args.design.now (λ node. 7) c.args.pool.now 0 c.in-Some.task.now c.requires.core c.in-Some.ensures
