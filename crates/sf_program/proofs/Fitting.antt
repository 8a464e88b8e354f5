-- The plan of an expression that costs something.
use Rattle.std.proofs.Common.{ℕ, subst}
use Rattle.sf_program.proofs.Common.{Design, Tree, IsLegal, Fits, Expr, spells-one, HasCost}
use Rattle.sf_polish.specs.Postfix.{Spells}

module _ (design : Design) (expr : Expr) (z : ℕ) (costs : HasCost design expr z) (tree : Tree) (spells : Spells expr tree) where
  -- the plan that the expression spells is legal
  pub its-legal : IsLegal design tree
  its-legal = subst (IsLegal design) (spells-one expr costs.tree tree costs.spells spells) costs.legal

  -- the plan that the expression spells fits
  pub its-fits : Fits design.outline tree
  its-fits = subst (Fits design.outline) (spells-one expr costs.tree tree costs.spells spells) costs.fits
