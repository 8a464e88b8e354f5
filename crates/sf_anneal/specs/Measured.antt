-- What tokens cost.
use Rattle.std.specs.Prelude.{◌≡◌, ℕ, List, [], length, map, Option, Some, None, MatchOption}
use Rattle.sf_model.specs.declared.TheConstants.{MAX}
use Rattle.sf_model.specs.declared.design.Design.{Design}
use Rattle.sf_model.specs.declared.parts.Block.{Block}
use Rattle.sf_model.specs.declared.parts.Shape.{Shape}
use Rattle.sf_model.specs.Cost.{cost}
use Rattle.sf_model.specs.Legal.{IsLegal, Fits, block_count}
use Rattle.sf_model.specs.Tree.{Tree}
use Rattle.sf_polish.specs.declared.expr.Expr.{Expr}
use Rattle.sf_polish.specs.declared.expr.Token.{Token}
use Rattle.sf_polish.specs.Postfix.{IsSkewed, Spells}
use Rattle.sf_curves.specs.Choices.{IsRootCurve, IsTraceOf}
use Rattle.sf_curves.specs.Points.{IsLeastArea}

-- the span of each block: its whole list
abbrev pub whole_spans : Design → List (ℕ × ℕ)
whole_spans design = map (λ (block : Block). (0, length block.shapes)) design.blocks

-- the expression is the trace of the point of least area on the tokens' root curve over whole lists, and costs so much
pub record IsTraced (design : Design) (tokens : List Token) (expr : Expr) (z : ℕ) : Type 0 where
  pub points : List Shape
  pub point : Shape
  pub curve : IsRootCurve design tokens (whole_spans design) points
  pub least : IsLeastArea points point
  pub trace : IsTraceOf design tokens (whole_spans design) point expr
  pub one_each : length expr.shapes ≡ block_count design
  pub costs : z ≡ cost design trace.tree

-- what the tokens give: the trace with its cost, or none where their root curve is empty
abbrev pub IsMeasure : Design → List Token → Option (Expr × ℕ) → Type 0
IsMeasure design tokens found = MatchOption found (IsRootCurve design tokens (whole_spans design) []) (λ pair. IsTraced design tokens pair.0 pair.1)

-- the cost of what was found, or MAX where there is none
abbrev pub cost_of : Option (Expr × ℕ) → ℕ
cost_of None = MAX
cost_of (Some pair) = pair.1

-- the tokens cost so much
abbrev pub IsCost : Design → List Token → ℕ → Type 0
IsCost design tokens z = (found : Option (Expr × ℕ)) × IsMeasure design tokens found × (z ≡ cost_of found)

-- the expression stands for a floorplan that fits, of this cost, and has a shape for each block
pub record IsFloorplan (design : Design) (expr : Expr) (z : ℕ) : Type 0 where
  pub tree : Tree
  pub spells : Spells expr tree
  pub one_each : length expr.shapes ≡ block_count design
  pub legal : IsLegal design tree
  pub skewed : IsSkewed tree
  pub fits : Fits design.outline tree
  pub costs : z ≡ cost design tree
