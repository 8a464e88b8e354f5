-- What a clause sees of a budget and of an account.
use Rattle.std.specs.Prelude.{ℕ}
use Rattle.atomic_table.specs.Seated.{TableId}

-- which budget it is, and its amount at first
pub record BudgetView : Type 0 where
  pub id : TableId
  pub amount : ℕ

-- of which budget it is an account, and how much it has drawn
pub record AccountView : Type 0 where
  pub budget : TableId
  pub drawn : ℕ
