use Rattle.std.proofs.Common.{ap, ◌∙◌}
use Rattle.sf_frontier.proofs.Common.{OwnerView}
use Rattle.sf_frontier.proofs.Steps.{merges, stole_none}
use Rattle.sf_frontier.proofs.ends.Owner.join.Goals as goal

pub absorb-requires-clause-rule : goal.absorb-requires-clause-rule
absorb-requires-clause-rule g c =
    merges g.T.Served.serves _ _ _ _ c.self.invariant.0 (stole_none _ _ c.self.invariant.2 (ap (λ (o : OwnerView). o.deque.parts) c.self.view_is ∙ c.requires.0)) c.thief.invariant.0 c.thief.invariant.1
