-- The plan of a design that a placement becomes, and why there is none.
use Rattle.std.specs.Prelude.{◌≡◌, ℕ, ◌≤◌, List, All, Bool, true, false, Contains, slice_index_or, ◌⊎◌}
use Rattle.std.specs.Int.{abs_diff}
use Rattle.sf_model.specs.declared.design.Design.{Design}
use Rattle.sf_model.specs.declared.parts.Shape.{Shape}
use Rattle.sf_model.specs.declared.plan.Spot.{Spot}
use Rattle.sf_model.specs.Legal.{IsLegal, shapes_of}
use Rattle.sf_model.specs.Tree.{Tree, leaves}
use Rattle.sf_model.specs.Wire.{spot_of}
use Rattle.sf_place.specs.Verdict.{IsFirstWithout, IsListed}
use Rattle.sf_polish.specs.Postfix.{IsSkewed}
use Rattle.sf_cuts.specs.declared.fault.CutFault.{CutFault}
use Rattle.sf_cuts.specs.declared.fault.CutFault.TheVariants as fault
use Rattle.sf_cuts.specs.Cuts.{Cuts, IsSlicing, size_of}

-- of the listed shapes the one whose width is nearest to w, of two as near the narrower, and of two as wide the lower
pub record IsNearest (shapes : List Shape) (w : ℕ) (shape : Shape) : Type 0 where
  pub listed : Contains shapes shape
  pub nearest : All (λ s. abs_diff shape.w w ≤ abs_diff s.w w) shapes
  pub narrower : All (λ s. abs_diff s.w w ≡ abs_diff shape.w w → shape.w ≤ s.w) shapes
  pub lower : All (λ s. s.w ≡ shape.w → shape.h ≤ s.h) shapes

-- the block has a shape for its spot: the size is listed, or the block is soft
abbrev pub HasShapeFor : Design → List Bool → Spot → Type 0
HasShapeFor design soft s = IsListed design s ⊎ (slice_index_or soft s.block false ≡ true)

-- the shape of a spot's block: the size of the spot where that is listed, and else the shape of nearest width
abbrev pub IsShapeFor : Design → Spot → Shape → Type 0
IsShapeFor design s shape =
    (IsListed design s × (shape ≡ size_of s)) ⊎ ((¬ (IsListed design s)) × IsNearest (shapes_of design s.block) s.w shape)

-- a skewed floorplan of the design that cuts the placement, each block in its shape for its spot
pub record IsPacked (design : Design) (soft : List Bool) (spots : List Spot) (tree : Tree) : Type 0 where
  pub cuts : Cuts spots tree
  pub skewed : IsSkewed tree
  pub legal : IsLegal design tree
  pub each_shaped : All (HasShapeFor design soft) spots
  pub shapes : All (λ leaf. IsShapeFor design (spot_of leaf.0 spots) leaf.1) (leaves tree)

-- no tree cuts the placement, or else this is the first block that has no shape for its spot
abbrev pub IsRefused : Design → List Bool → List Spot → CutFault → Type 0
IsRefused design soft spots fault.NotSlicing = ¬ (IsSlicing spots)
IsRefused design soft spots (fault.Unlisted b) = IsSlicing spots × IsFirstWithout (HasShapeFor design soft) spots b
IsRefused design soft spots fault.NoMemory = Unit {0}
