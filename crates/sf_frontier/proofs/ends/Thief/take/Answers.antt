use Rattle.sf_frontier.proofs.Steps.{steals}
use Rattle.sf_frontier.proofs.ends.Thief.take.Goals as goal

pub steal_as-requires-clause-takes : goal.steal_as-requires-clause-takes
steal_as-requires-clause-takes g c = steals g.T.Served.serves _ _ 1 c.self.invariant.0 c.self.invariant.1
