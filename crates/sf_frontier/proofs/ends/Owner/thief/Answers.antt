use Rattle.std.proofs.Common.{ap, ◌∙◌}
use Rattle.sf_frontier.proofs.Common.{OwnerView}
use Rattle.sf_frontier.proofs.Steps.{forks, has_front}
use Rattle.sf_frontier.proofs.ends.Owner.thief.Goals as goal

pub another-pass-requires : goal.another-pass-requires
another-pass-requires g c = forks g.T.Served.serves _ _ c.self.invariant.0 (has_front _ _ c.self.invariant.1 (ap (λ (o : OwnerView). o.deque.parts) c.self.view_is ∙ c.requires))
