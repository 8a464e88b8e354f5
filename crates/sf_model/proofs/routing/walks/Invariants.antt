use Rattle.std.proofs.Common.{drop, ◌↔◌}
use Rattle.sf_model.proofs.Used.{Walks}
use Rattle.sf_model.proofs.routing.walks.Given as goal

abbrev pub invariant-loop-step : goal.invariant-loop-step
invariant-loop-step l = Walks l.nets l.path.first l.path.steps ↔ Walks l.nets l.at (drop l.step-index l.path.steps)
