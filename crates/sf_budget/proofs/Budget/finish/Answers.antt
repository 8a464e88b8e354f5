use Rattle.std.proofs.Common.{ap, arith}
use Rattle.sf_budget.proofs.Common.{AccountView, BudgetView}
use Rattle.sf_budget.proofs.Steps.{at_most}
use Rattle.sf_budget.proofs.Budget.finish.Goals as goal

pub returns : goal.returns
returns c =
    let f = c.close_with.ensures.values.2 in
    let low = at_most c.self.inside.table.shared.key.amount c.account.inside.seat.id f.0 c.account.inside.seat.me.0 f.1 in
    let drawn = ap (λ (a : AccountView). a.drawn) c.account.view_is in
    let amount = ap (λ (b : BudgetView). b.amount) c.self.view_is in
    omega (arith, low, drawn, amount)
