-- The least area of all floorplans.
use Rattle.std.specs.Prelude.{◌≡◌, ℕ, ◌+◌, ◌*◌, ◌⊎◌}
use Rattle.sf_model.specs.declared.design.Design.{Design}
use Rattle.sf_model.specs.declared.parts.Shape.{Shape}
use Rattle.sf_model.specs.Cost.{NoneFits}
use Rattle.sf_model.specs.Floored.{HasFloor}
use Rattle.sf_model.specs.Legal.{IsAreaFloor, IsLegal, Fits}
use Rattle.sf_model.specs.Tree.{Tree, width, height}
use Rattle.sf_curves.specs.Choices.{size_of}
use Rattle.sf_curves.specs.Points.{area_of}

-- a floorplan that fits
pub record IsFitting (design : Design) (tree : Tree) : Type 0 where
  pub legal : IsLegal design tree
  pub fits : Fits design.outline tree

-- a floorplan that fits, its area, and that none that fits has a lesser one
pub record IsLeastPlan (design : Design) (tree : Tree) (area : ℕ) : Type 0 where
  pub legal : IsLegal design tree
  pub fits : Fits design.outline tree
  pub area_is : width tree * height tree ≡ area
  pub least : IsAreaFloor design area

-- the size of such a floorplan
pub record IsLeastSize (design : Design) (size : Shape) : Type 0 where
  pub tree : Tree
  pub plan : IsLeastPlan design tree (area_of size)
  pub is : size_of tree ≡ size

-- the least area of all floorplans that fit, or one more than the outline's where none fits
abbrev pub IsAreaOf : Design → ℕ → Type 0
IsAreaOf design area =
    ((tree : Tree) × IsLeastPlan design tree area) ⊎ (NoneFits design × (area ≡ design.outline.w * design.outline.h + 1))

-- the second design is the first where it knows this area
pub record KnowsArea (old new : Design) : Type 0 where
  pub floor : ℕ
  pub is : IsAreaOf old floor
  pub has : HasFloor old floor new
