-- The curves of items.
use Rattle.std.specs.Prelude.{List, map}
use Rattle.sf_model.specs.declared.design.Design.{Design}
use Rattle.sf_model.specs.declared.parts.Shape.{Shape}
use Rattle.sf_node.specs.Parts.{Parts}
use Rattle.sf_curves.specs.Choices.{size_of}
use Rattle.sf_curves.specs.Points.{IsCurveOf}
use Rattle.sf_standard.specs.Items.{Item, fitting}

-- the curve of the fitting plans of an item
abbrev pub IsItemCurve : Design → Parts → List Shape → Item → Type 0
IsItemCurve design node c i = IsCurveOf design.outline (map size_of (fitting design node i)) c
