-- Spans: of the shapes of a block, those at some places of its list.
use Rattle.std.specs.Prelude.{ℕ, List, slice_index_or, slice_range}
use Rattle.sf_model.specs.declared.design.Design.{Design}
use Rattle.sf_model.specs.declared.parts.Shape.{Shape}
use Rattle.sf_model.specs.Legal.{shapes_of}

-- the span of a block: from the first place of its list, and before the second. Past the last block it is empty
abbrev pub span_in : List (ℕ × ℕ) → ℕ → ℕ × ℕ
span_in spans b = slice_index_or spans b (0, 0)

-- the shapes of a block at the places of its span
abbrev pub shapes_in : Design → List (ℕ × ℕ) → ℕ → List Shape
shapes_in design spans b = slice_range (shapes_of design b) (span_in spans b).0 (span_in spans b).1
