-- Expressions that can be written.
use Rattle.std.specs.Prelude.{◌≡◌, ℕ, length, All}
use Rattle.sf_model.specs.Limits.{IsSide}
use Rattle.sf_polish.specs.declared.expr.Expr.{Expr}
use Rattle.sf_polish.specs.Normal.{IsNormal}

-- normal tokens of these blocks, one shape for each block, and each side within the limit
pub record IsWritable (blocks : ℕ) (expr : Expr) : Type 0 where
  pub normal : IsNormal blocks expr.tokens
  pub one_each : length expr.shapes ≡ blocks
  pub sides : All (λ s. IsSide s.w × IsSide s.h) expr.shapes
