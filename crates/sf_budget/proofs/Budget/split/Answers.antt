use Rattle.std.proofs.Common.{ap, sym, ◌∙◌, arith}
use Rattle.sf_budget.proofs.Common.{AccountView, BudgetView}
use Rattle.sf_budget.proofs.Steps.{splits}
use Rattle.sf_budget.proofs.Budget.split.Goals as goal

pub split_seat-requires : goal.split_seat-requires
split_seat-requires c = (ap (λ (a : AccountView). a.budget) c.account.view_is ∙ (c.requires ∙ sym (ap (λ (b : BudgetView). b.id) c.self.view_is)), omega arith, splits _ _ _)
