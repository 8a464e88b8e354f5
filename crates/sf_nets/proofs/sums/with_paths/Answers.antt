use Rattle.std.proofs.Common.{arith}
use Rattle.sf_nets.proofs.Common.{routes-small}
use Rattle.sf_nets.proofs.sums.with_paths.Goals as goal

pub overflow_add-design : goal.overflow_add-design
overflow_add-design c = omega (arith, c.requires, routes-small c.args.design.now)
