-- Plans whose shapes stand in the lists of their blocks, node by node. These are words of the code that tests it; in Answers they are those of the leaves.
use Rattle.std.specs.Prelude.{Contains}
use Rattle.sf_model.specs.declared.design.Design.{Design}
use Rattle.sf_model.specs.Legal.{shapes_of}
use Rattle.sf_model.specs.Tree.{Tree, Leaf, Beside, Above}

-- each leaf has a shape of its block's list
abbrev pub HasListedShapes : Design → Tree → Type 0
HasListedShapes design (Leaf b s) = Contains (shapes_of design b) s
HasListedShapes design (Beside l r) = HasListedShapes design l × HasListedShapes design r
HasListedShapes design (Above l r) = HasListedShapes design l × HasListedShapes design r
