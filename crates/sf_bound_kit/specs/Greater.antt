-- The greater of two bounds, and of their parts.
use Rattle.std.specs.Prelude.{ℕ, max}
use Rattle.sf_node.specs.declared.part.Part.{Part}
use Rattle.sf_node.specs.Parts.{Parts}

-- the greater of two values
abbrev pub greater : (Parts → ℕ) → (Parts → ℕ) → Parts → ℕ
greater f g node = max (f node) (g node)

-- the greater of two values of a part
abbrev pub greater_part : (Parts → Part → ℕ) → (Parts → Part → ℕ) → Parts → Part → ℕ
greater_part p q node part = max (p node part) (q node part)
