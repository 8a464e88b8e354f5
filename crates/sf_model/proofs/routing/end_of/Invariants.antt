use Rattle.std.proofs.Common.{◌≡◌, drop}
use Rattle.sf_model.proofs.Common.{end_of, last_of}
use Rattle.sf_model.proofs.routing.end_of.Given as goal

abbrev pub invariant-loop-step : goal.invariant-loop-step
invariant-loop-step l = end_of l.path ≡ last_of l.at (drop l.step-index l.path.steps)
