-- The imports that the proof files of this crate share.
pub use Rattle.sf_budget.specs.Rule.{Draws, IsBudget, place, taken, view}
pub use Rattle.sf_budget.specs.Seen.{AccountView, BudgetView}
