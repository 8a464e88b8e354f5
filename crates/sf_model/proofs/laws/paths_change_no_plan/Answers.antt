use Rattle.sf_model.proofs.Floored.{legal-routed, cost-of, paths-one}
use Rattle.sf_model.proofs.laws.paths_change_no_plan.Goals as goal

pub returns : goal.returns
returns c = record {
  own = λ design. design.routed;
  legal = legal-routed;
  cost = λ old paths new tree h. cost-of old new tree h.pads h.nets h.weights;
  one = paths-one;
}
