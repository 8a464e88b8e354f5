use Rattle.std.proofs.Common.{arith}
use Rattle.sf_frontier.proofs.Steps.{puts}
use Rattle.sf_frontier.proofs.ends.Owner.put.Goals as goal

pub push_as-answer-requires-clause-pushes : goal.push_as-answer-requires-clause-pushes
push_as-answer-requires-clause-pushes g c = puts g.T.Served.serves _ _ _ (let b = c.self.invariant.0 in omega arith) c.requires
