use Rattle.std.proofs.Common.{◌<◌, length}
use Rattle.sf_search_core.specs.Core.{IsCoreState}
use Rattle.sf_search_tests.proofs.pool.are_answered.Given as goal

abbrev pub invariant-loop-tried : goal.invariant-loop-tried
invariant-loop-tried l = record { core : IsCoreState l.design (λ node. 7) l.pool; worker : 0 < length l.pool.held }
