-- Plans and entries of a design.
use Rattle.std.specs.Prelude.{◌≡◌, ℕ, ◌<◌, IsTrue, Option, Some, None}
use Rattle.sf_model.specs.declared.design.Design.{Design}
use Rattle.sf_model.specs.declared.TheConstants.{MAX}
use Rattle.sf_polish.specs.declared.expr.Expr.{Expr}
use Rattle.sf_node.specs.Parts.{Parts}
use Rattle.sf_node.specs.Subproblem.{is_solved}
use Rattle.sf_bound.specs.Cheapest.{IsPlanOf}
use Rattle.sf_search_core.specs.declared.entry.Entry.{Entry}
use Rattle.sf_search_core.specs.declared.entry.Kind.TheVariants as kind
use Rattle.sf_search_core.specs.Conserved.{IsDecided}
use Rattle.sf_count.specs.Few.{BranchesFirst}

-- the expression stands for a plan of some subproblem that fits, and costs z
abbrev pub IsPlan : Design → Expr → ℕ → Type 0
IsPlan design expr z = (node : Parts) × IsPlanOf design node expr z

-- what holds of each entry that a worker logs
abbrev pub IsEntry : Design → (Parts → ℕ) → Entry → Type 0
IsEntry design bound e = IsDecided e.kind e.node (bound e.node) e.value × BranchesFirst design e.kind e.node

-- a closed entry of a solved subproblem with this bound
abbrev pub Solves : Design → (Parts → ℕ) → ℕ → Entry → Type 0
Solves design bound z e = (e.kind ≡ kind.Closed) × IsTrue (is_solved design e.node) × (bound e.node ≡ z)

-- the best plan is that of the least offer, and there is none just where nothing was offered
abbrev pub IsBest : Design → Option (Expr × ℕ) → ℕ → Type 0
IsBest design None offered = offered ≡ MAX
IsBest design (Some best) offered = IsPlan design best.0 best.1 × (best.1 ≡ offered) × (offered < MAX)
