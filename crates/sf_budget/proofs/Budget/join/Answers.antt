use Rattle.std.proofs.Common.{ap, sym, ◌∙◌, arith}
use Rattle.sf_budget.proofs.Common.{AccountView, BudgetView}
use Rattle.sf_budget.proofs.Steps.{joins}
use Rattle.sf_budget.proofs.Budget.join.Goals as goal

pub join_seat-requires : goal.join_seat-requires
join_seat-requires c = (ap (λ (a : AccountView). a.budget) c.into.view_is ∙ (c.requires.into ∙ sym (ap (λ (b : BudgetView). b.id) c.self.view_is)), ap (λ (a : AccountView). a.budget) c.from.view_is ∙ (c.requires.from ∙ sym (ap (λ (b : BudgetView). b.id) c.self.view_is)), c.from.invariant, omega arith, joins _ _ _ _ _)
