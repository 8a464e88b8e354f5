-- The area that the groups of a subproblem need, its items and unused blocks.
use Rattle.std.specs.Prelude.{◌≡◌, ℕ, List, true, Option, MatchOption}
use Rattle.std.specs.List.{list_any}
use Rattle.sf_model.specs.declared.design.Design.{Design}
use Rattle.sf_model.specs.Tree.{Tree}
use Rattle.sf_node.specs.Parts.{Parts}
use Rattle.sf_standard.specs.Standard.{has_none, needed_area, plans_of, AllHavePlans}

-- the plans of the items and of the unused blocks
abbrev pub group_plans : Design → Parts → List (List Tree)
group_plans design node = plans_of design node

-- the area that is needed, where each group has a plan
pub record IsNeeded (design : Design) (node : Parts) (a : ℕ) : Type 0 where
  pub some : AllHavePlans design node
  pub value : a ≡ needed_area (plans_of design node)

-- this area, or none where a group has no plan
abbrev pub IsNeededOrNone : Design → Parts → Option ℕ → Type 0
IsNeededOrNone design node found = MatchOption found (list_any has_none (plans_of design node) ≡ true) (IsNeeded design node)
