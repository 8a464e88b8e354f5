-- Shapes among those in a block's span.
use Rattle.std.specs.Prelude.{ℕ, ◌<◌, List, Contains}
use Rattle.sf_model.specs.declared.design.Design.{Design}
use Rattle.sf_model.specs.declared.parts.Shape.{Shape}
use Rattle.sf_model.specs.Legal.{block_count}
use Rattle.sf_model.specs.Spans.{shapes_in}
use Rattle.sf_polish.specs.Postfix.{shape_at}
use Rattle.sf_node.specs.Parts.{Parts}

-- the shape is one of those at the places of the block's span
abbrev pub IsInSpan : Design → Parts → ℕ → Shape → Type 0
IsInSpan design node b shape = Contains (shapes_in design node.spans b) shape

-- the shape of each block is one of those in its span
abbrev pub AreInSpans : Design → Parts → List Shape → Type 0
AreInSpans design node shapes = (b : ℕ) → b < block_count design → IsInSpan design node b (shape_at shapes b)
