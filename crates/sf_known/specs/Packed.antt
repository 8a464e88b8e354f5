-- What a search begins with where a placement is given.
use Rattle.std.specs.Prelude.{◌≡◌, ℕ, List, Bool, MatchOption}
use Rattle.sf_model.specs.declared.design.Design.{Design}
use Rattle.sf_model.specs.declared.plan.Spot.{Spot}
use Rattle.sf_model.specs.Cost.{cost}
use Rattle.sf_model.specs.Legal.{Fits}
use Rattle.sf_model.specs.Tree.{Tree}
use Rattle.sf_polish.specs.declared.expr.Expr.{Expr}
use Rattle.sf_polish.specs.Postfix.{Spells, postfix}
use Rattle.sf_cuts.specs.Packed.{IsPacked}
use Rattle.sf_anneal.specs.declared.beginning.Beginning.{Beginning}

-- the expression stands for the plan, which fits the outline and costs so much
pub record IsPriced (design : Design) (tree : Tree) (expr : Expr) (z : ℕ) : Type 0 where
  pub spells : Spells expr tree
  pub fits : Fits design.outline tree
  pub costs : z ≡ cost design tree

-- the placement is packed: the tokens are those of the plan that it becomes, which stands there with its cost where it fits the outline, and only there
pub record IsPackedBeginning (design : Design) (soft : List Bool) (spots : List Spot) (begin : Beginning) : Type 0 where
  pub tree : Tree
  pub packed : IsPacked design soft spots tree
  pub tokens : postfix tree ≡ begin.tokens
  pub plan : MatchOption begin.plan (¬ (Fits design.outline tree)) (λ p. IsPriced design tree p.0 p.1)
