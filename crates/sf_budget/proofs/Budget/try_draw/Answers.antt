use Rattle.std.proofs.Common.{ap, sym, ◌∙◌, arith}
use Rattle.sf_budget.proofs.Common.{AccountView, BudgetView}
use Rattle.sf_budget.proofs.Steps.{draws}
use Rattle.sf_budget.proofs.Budget.try_draw.Goals as goal

pub compare_exchange-found-requires : goal.compare_exchange-found-requires
compare_exchange-found-requires c = (ap (λ (a : AccountView). a.budget) c.account.view_is ∙ (c.requires ∙ sym (ap (λ (b : BudgetView). b.id) c.self.view_is)), omega arith, draws _ _ _ _ _ _ (omega arith))
