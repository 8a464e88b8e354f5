use Rattle.std.proofs.Common.{Option, MatchOption, sym, subst}
use Rattle.sf_subsets.proofs.Common.{tree_of, NoneFits, LeastPlan, IsLeastPlan}
use Rattle.sf_subsets.proofs.Learned.{least-kept}
use Rattle.sf_subsets.proofs.learning.learn_area.Goals as goal

pub returns-in-Some-clause-plan : goal.returns-in-Some-clause-plan
returns-in-Some-clause-plan c =
    let old = c.args.design.now in
    let new = c.set_area_floor.new.self in
    let least = c.in-Some.least in
    let told = subst (λ (f : Option LeastPlan). MatchOption f (NoneFits old) (λ l. IsLeastPlan old (tree_of l.plan) l.area)) c.in-Some.is c.in_ok-least.ensures in
    subst (IsLeastPlan new (tree_of least.plan)) (sym c.set_area_floor.ensures.floor_is) (least-kept old least.area new c.set_area_floor.ensures (tree_of least.plan) least.area told)
