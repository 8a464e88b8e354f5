-- The plans with given tokens and with shapes from given spans, and the curve of their sizes.
use Rattle.std.specs.Prelude.{◌≡◌, ℕ, ◌<◌, ◌≤◌, List, length, All, AllPairs, Contains}
use Rattle.sf_model.specs.declared.design.Design.{Design}
use Rattle.sf_model.specs.declared.parts.Shape.{Shape}
use Rattle.sf_model.specs.Legal.{block_count, shapes_of}
use Rattle.sf_model.specs.Spans.{span_in, shapes_in}
use Rattle.sf_model.specs.Tree.{Tree, Leaf, Beside, Above, width, height, leaves}
use Rattle.sf_polish.specs.declared.expr.Expr.{Expr}
use Rattle.sf_polish.specs.declared.expr.Token.{Token}
use Rattle.sf_polish.specs.Postfix.{postfix, Spells}
use Rattle.sf_curves.specs.Points.{IsSlimmer, IsWithin, IsCovered, IsNarrowest, IsLowest}

-- one span for each block, not empty and within the block's list
pub record AreSpans (design : Design) (spans : List (ℕ × ℕ)) : Type 0 where
  pub count : length spans ≡ block_count design
  pub some : (b : ℕ) → b < block_count design → (span_in spans b).0 < (span_in spans b).1
  pub inside : (b : ℕ) → b < block_count design → (span_in spans b).1 ≤ length (shapes_of design b)

-- a plan with these tokens, and with a shape from the span of each block
pub record IsChoice (design : Design) (given : List Token) (spans : List (ℕ × ℕ)) (tree : Tree) : Type 0 where
  pub tokens : postfix tree ≡ given
  pub shapes : All (λ leaf. Contains (shapes_in design spans leaf.0) leaf.1) (leaves tree)

-- the size of a plan
abbrev pub size_of : Tree → Shape
size_of tree = record { w = width tree; h = height tree }

-- the undominated sizes of the choices that lie in the outline
pub record IsRootCurve (design : Design) (tokens : List Token) (spans : List (ℕ × ℕ)) (points : List Shape) : Type 0 where
  pub falls : AllPairs IsSlimmer points
  pub within : All (IsWithin design.outline) points
  pub traced : All (λ p. (tree : Tree) × IsChoice design tokens spans tree × (size_of tree ≡ p)) points
  pub covers : (tree : Tree) → IsChoice design tokens spans tree → IsCovered design.outline points (size_of tree)

-- the point is on the root curve, of which there is only one
abbrev pub IsOnRootCurve : Design → List Token → List (ℕ × ℕ) → Shape → Type 0
IsOnRootCurve design tokens spans point = (points : List Shape) × IsRootCurve design tokens spans points × Contains points point

-- the narrowest point of the tokens' root curve that is no higher than the limit
pub record IsNarrowestOf (design : Design) (tokens : List Token) (spans : List (ℕ × ℕ)) (limit : ℕ) (p : Shape) : Type 0 where
  pub points : List Shape
  pub curve : IsRootCurve design tokens spans points
  pub narrowest : IsNarrowest limit points p

-- the lowest point of the tokens' root curve that is no wider than the limit
pub record IsLowestOf (design : Design) (tokens : List Token) (spans : List (ℕ × ℕ)) (limit : ℕ) (p : Shape) : Type 0 where
  pub points : List Shape
  pub curve : IsRootCurve design tokens spans points
  pub lowest : IsLowest limit points p

-- how a plan takes its shapes from a point: of two rooms side by side each has the narrowest point that is no higher, of two rooms one above the other each has the lowest that is no wider, and a block has the point for its shape
abbrev pub TakesFrom : Design → List (ℕ × ℕ) → Tree → Shape → Type 0
TakesFrom design spans (Leaf b s) p = s ≡ p
TakesFrom design spans (Beside l r) p =
    (x : Shape) × (y : Shape) × IsNarrowestOf design (postfix l) spans p.h x × IsNarrowestOf design (postfix r) spans p.h y
    × TakesFrom design spans l x × TakesFrom design spans r y
TakesFrom design spans (Above l r) p =
    (x : Shape) × (y : Shape) × IsLowestOf design (postfix l) spans p.w x × IsLowestOf design (postfix r) spans p.w y
    × TakesFrom design spans l x × TakesFrom design spans r y

-- the expression stands for a choice of just this size, whose shapes are those that the point leads to
pub record IsTraceOf (design : Design) (tokens : List Token) (spans : List (ℕ × ℕ)) (point : Shape) (expr : Expr) : Type 0 where
  pub tree : Tree
  pub spells : Spells expr tree
  pub choice : IsChoice design tokens spans tree
  pub size : size_of tree ≡ point
  pub takes : TakesFrom design spans tree point
