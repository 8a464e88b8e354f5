-- How the code goes, and nothing that the crate promises: the shapes of all blocks, and a tree in these shapes.
use Rattle.std.specs.Prelude.{◌≡◌, ℕ, ◌<◌, List, length, Bool, true, Option, Some, None, ◌⊎◌}
use Rattle.sf_model.specs.declared.design.Design.{Design}
use Rattle.sf_model.specs.declared.parts.Shape.{Shape}
use Rattle.sf_model.specs.declared.plan.Spot.{Spot}
use Rattle.sf_model.specs.Tree.{Tree, Leaf, Beside, Above}
use Rattle.sf_model.specs.Wire.{spot_of}
use Rattle.sf_place.specs.Verdict.{IsFirstWithout, IsListed}
use Rattle.sf_polish.specs.Postfix.{shape_at}
use Rattle.sf_cuts.specs.declared.fault.CutFault.{CutFault}
use Rattle.sf_cuts.specs.declared.fault.CutFault.TheVariants as fault
use Rattle.sf_cuts.specs.Packed.{HasShapeFor, IsShapeFor}

-- the shape for a spot of a hard or a soft block, if it has one
abbrev pub IsChoice : Design → Bool → Spot → Option Shape → Type 0
IsChoice design soft s None = ¬ (IsListed design s ⊎ (soft ≡ true))
IsChoice design soft s (Some shape) = (IsListed design s ⊎ (soft ≡ true)) × IsShapeFor design s shape

-- each block has a shape for its spot, and these are they
pub record AreShapesFor (design : Design) (soft : List Bool) (spots : List Spot) (shapes : List Shape) : Type 0 where
  pub one_each : length shapes ≡ length spots
  pub each : (b : ℕ) → b < length spots → HasShapeFor design soft (spot_of b spots) × IsShapeFor design (spot_of b spots) (shape_at shapes b)

-- the first block without a shape for its spot, or no memory
abbrev pub HasUnlisted : Design → List Bool → List Spot → CutFault → Type 0
HasUnlisted design soft spots fault.NotSlicing = ⊥
HasUnlisted design soft spots (fault.Unlisted b) = IsFirstWithout (HasShapeFor design soft) spots b
HasUnlisted design soft spots fault.NoMemory = Unit {0}

-- the tree with these shapes of its blocks
abbrev pub shaped : List Shape → Tree → Tree
shaped shapes (Leaf b s) = Leaf b (shape_at shapes b)
shaped shapes (Beside l r) = Beside (shaped shapes l) (shaped shapes r)
shaped shapes (Above l r) = Above (shaped shapes l) (shaped shapes r)
