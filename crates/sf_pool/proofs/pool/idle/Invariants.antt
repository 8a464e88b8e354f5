use Rattle.std.proofs.Common.{◌≡◌, replicate, None}
use Rattle.sf_pool.proofs.pool.idle.Given as goal

abbrev pub invariant-loop-worker : goal.invariant-loop-worker
invariant-loop-worker l = l.held.items ≡ replicate l._worker None
