-- The shapes of a plan's leaves, as a list by block.
use Rattle.std.specs.Prelude.{List, slice_set}
use Rattle.sf_model.specs.declared.parts.Shape.{Shape}
use Rattle.sf_model.specs.Tree.{Tree, Leaf, Beside, Above}

-- no shape yet
abbrev pub no_shape : Shape
no_shape = record { w = 0; h = 0 }

-- the list, once the shapes of the leaves are written at the places of their blocks
abbrev pub with_leaves : List Shape → Tree → List Shape
with_leaves shapes (Leaf b s) = slice_set shapes b s
with_leaves shapes (Beside l r) = with_leaves (with_leaves shapes l) r
with_leaves shapes (Above l r) = with_leaves (with_leaves shapes l) r
