use Rattle.std.proofs.Common.{◌≡◌, drop}
use Rattle.sf_model.proofs.Common.{reach_pad}
use Rattle.sf_model.proofs.routing.reach_pad.Given as goal

abbrev pub invariant-loop-number : goal.invariant-loop-number
invariant-loop-number l = reach_pad l.steps ≡ reach_pad (drop l.number l.steps)
