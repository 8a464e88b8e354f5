use Rattle.sf_model.proofs.Floored.{own_floor, legal-same, cost-same, floor-one}
use Rattle.sf_model.proofs.laws.floors_change_no_plan.Goals as goal

pub returns : goal.returns
returns c = record { own = own_floor; legal = legal-same; cost = cost-same; one = floor-one }
