use Rattle.std.proofs.Common.{◌≡◌, length, arith, ap}
use Rattle.sf_search_core.specs.State.{State}
use Rattle.sf_search_tests.proofs.pool.are_answered.Goals as goal

pub loop-tried-init : goal.loop-tried-init
loop-tried-init c =
    let one : length c.in_ok-pool.pool.held ≡ 1 = ap (λ (s : State). length s.held) c.in_ok-pool.ensures.opening in
    record { core = c.in_ok-pool.ensures.core; worker = omega (arith, one) }

pub step-requires-clause-core : goal.step-requires-clause-core
step-requires-clause-core c = c.loop-tried.invariant.core

pub step-requires-clause-worker : goal.step-requires-clause-worker
step-requires-clause-worker c = c.loop-tried.invariant.worker
