use Rattle.sf_curves.proofs.OneTrace.{one-curve, one-least, one-trace}
use Rattle.sf_curves.proofs.laws.traces_are_one.Goals as goal

pub returns-clause-curve : goal.returns-clause-curve
returns-clause-curve c = one-curve

pub returns-clause-least : goal.returns-clause-least
returns-clause-least c = one-least

pub returns-clause-trace : goal.returns-clause-trace
returns-clause-trace c = one-trace
