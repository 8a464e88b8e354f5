-- What the crate promises of `solve`: the cheapest plan of a subproblem.
use Rattle.std.specs.Prelude.{◌≡◌, ℕ, List, length, Option, MatchOption}
use Rattle.sf_model.specs.declared.design.Design.{Design}
use Rattle.sf_model.specs.declared.parts.Shape.{Shape}
use Rattle.sf_model.specs.Tree.{Tree}
use Rattle.sf_model.specs.Legal.{Fits, block_count}
use Rattle.sf_model.specs.Cost.{cost}
use Rattle.sf_polish.specs.declared.expr.Expr.{Expr}
use Rattle.sf_polish.specs.Postfix.{Spells}
use Rattle.sf_node.specs.Parts.{Parts}
use Rattle.sf_node.specs.Subproblem.{Belongs}
use Rattle.sf_node.specs.Bounds.{IsBelowAll}
use Rattle.sf_curves.specs.Choices.{IsRootCurve, IsTraceOf}
use Rattle.sf_curves.specs.Points.{IsLeastArea}

-- the expression stands for a plan of the subproblem that fits, of this cost, and has a shape for each block
pub record IsPlanOf (design : Design) (node : Parts) (expr : Expr) (z : ℕ) : Type 0 where
  pub tree : Tree
  pub spells : Spells expr tree
  pub one_each : length expr.shapes ≡ block_count design
  pub belongs : Belongs design node tree
  pub fits : Fits design.outline tree
  pub costs : cost design tree ≡ z

-- and no other one costs less
pub record IsCheapest (design : Design) (node : Parts) (expr : Expr) (z : ℕ) : Type 0 where
  pub plan : IsPlanOf design node expr z
  pub below : IsBelowAll design node z

-- no plan of the subproblem fits
abbrev pub NoneOfNode : Design → Parts → Type 0
NoneOfNode design node = (tree : Tree) → Belongs design node tree → ¬ (Fits design.outline tree)

-- a plan of least cost and its cost, or none where none fits
abbrev pub IsSolution : Design → Parts → Option (Expr × ℕ) → Type 0
IsSolution design node found = MatchOption found (NoneOfNode design node) (λ pair. IsCheapest design node pair.0 pair.1)

-- the trace of the least area on the root curve, of equal areas of the narrowest
pub record IsLeastTrace (design : Design) (node : Parts) (expr : Expr) : Type 0 where
  pub points : List Shape
  pub point : Shape
  pub curve : IsRootCurve design node.tokens node.spans points
  pub least : IsLeastArea points point
  pub trace : IsTraceOf design node.tokens node.spans point expr
