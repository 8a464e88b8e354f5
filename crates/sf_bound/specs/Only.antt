-- How the code goes, and nothing that the crate promises: the plan of a subproblem whose spans have one place each.
use Rattle.std.specs.Prelude.{◌≡◌, ℕ, ◌<◌, List, length, slice_index_or}
use Rattle.sf_model.specs.declared.design.Design.{Design}
use Rattle.sf_model.specs.declared.parts.Shape.{Shape}
use Rattle.sf_model.specs.Legal.{shapes_of}
use Rattle.sf_node.specs.Parts.{Parts}
use Rattle.sf_node.specs.Subproblem.{span_of}

-- the first shape in the span of a block
abbrev pub first_shape : Design → Parts → ℕ → Shape
first_shape design node b = slice_index_or (shapes_of design b) (span_of node b).0 (record { w = 0; h = 0 })

-- the list tells a function of the numbers below n
pub record Tells {X : Type 0} (f : ℕ → X) (n : ℕ) (xs : List X) : Type 0 where
  pub count : length xs ≡ n
  pub each : (b : ℕ) (d : X) → b < n → slice_index_or xs b d ≡ f b
