-- The two ways to join rooms, in tokens, plans and sizes.
use Rattle.sf_model.specs.declared.parts.Shape.{Shape}
use Rattle.sf_model.specs.Tree as tree
use Rattle.sf_model.specs.Tree.{Tree}
use Rattle.sf_polish.specs.declared.expr.Token.{Token}
use Rattle.sf_polish.specs.declared.expr.Token.TheVariants as token
use Rattle.sf_curves.specs.Points.{beside_size, above_size}
use Rattle.sf_curves.specs.declared.direction.Direction.{Direction}
use Rattle.sf_curves.specs.declared.direction.Direction.TheVariants.{Beside, Above}

-- the operator
abbrev pub token_in : Direction → Token
token_in Beside = token.Beside
token_in Above = token.Above

-- the joined plan
abbrev pub plan_in : Direction → Tree → Tree → Tree
plan_in Beside p q = tree.Beside p q
plan_in Above p q = tree.Above p q

-- the joined size
abbrev pub size_in : Direction → Shape → Shape → Shape
size_in Beside = beside_size
size_in Above = above_size
