use Rattle.sf_program.proofs.Common.{uncounted}
use Rattle.sf_program.proofs.plan_input.read_plan.Goals as goal

pub returns-clause-shelf : goal.returns-clause-shelf
returns-clause-shelf g c = (c.in_ok-admitted.ensures.shelf.0, uncounted c.within_budget.result _ _ c.within_budget.ensures.tells)
