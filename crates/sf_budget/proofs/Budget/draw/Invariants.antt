use Rattle.std.proofs.Common.{◌≡◌}
use Rattle.sf_budget.proofs.Budget.draw.Given as goal

abbrev pub invariant-loop : goal.invariant-loop
invariant-loop l = l.account ≡ l.fn.account
