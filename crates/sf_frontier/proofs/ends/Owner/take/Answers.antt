use Rattle.std.proofs.Common.{arith}
use Rattle.sf_frontier.proofs.Steps.{pops, finds}
use Rattle.sf_frontier.proofs.ends.Owner.take.Goals as goal

pub pop_as-task-requires-clause-lifo : goal.pop_as-task-requires-clause-lifo
pop_as-task-requires-clause-lifo g c = λ _. pops g.T.Served.serves _ _ (let b = c.self.invariant.0 in omega arith)

pub pop_as-task-requires-clause-empty : goal.pop_as-task-requires-clause-empty
pop_as-task-requires-clause-empty g c = finds g.T.Served.serves _ _ (let b = c.self.invariant.0 in omega arith)
