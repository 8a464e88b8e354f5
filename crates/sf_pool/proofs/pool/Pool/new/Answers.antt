use Rattle.std.proofs.Common.{rules}
use Rattle.sf_pool.proofs.Core.{opened-core}
use Rattle.sf_pool.proofs.pool.Pool.new.Goals as goal

pub returns-clause-core : goal.returns-clause-core
returns-clause-core g c = opened-core c.args.design.now (g.V.Values.value c.args.values.now c.args.design.now) c.args.workers _ (search rules)
