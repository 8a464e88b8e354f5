-- What the workers of a round begin with, and their accounts of what they draw later.
use Rattle.std.specs.Prelude.{◌≡◌, ℕ, ◌+◌, ◌≤◌, List, sum}
use Rattle.sf_budget.specs.Seen.{AccountView, BudgetView}
use Rattle.sf_rounds.specs.Jobs.{EachTwo}

-- a worker whose quota has a decision begins with one at least
abbrev pub Begins : ℕ → ℕ → Type 0
Begins quota first = 1 ≤ quota → 1 ≤ first

-- what each worker begins with, and the rest: a quota that isn't 0 begins with a decision, and all are no more than the quotas
pub record AreFirst (quotas first : List ℕ) (rest : ℕ) : Type 0 where
  pub each : EachTwo Begins quotas first
  pub within : sum first + rest ≤ sum quotas

-- an account of the budget that has drawn nothing
abbrev pub IsNew : BudgetView → AccountView → Type 0
IsNew budget account = account ≡ record { budget = budget.id; drawn = 0 }
