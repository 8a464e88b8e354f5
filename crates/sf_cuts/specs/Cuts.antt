-- Slicing trees that cut a placement.
use Rattle.std.specs.Prelude.{◌≡◌, ℕ, List, length, map, ◌++◌, All, ℤ, pos, ◌+ℤ◌, ◌≤ℤ◌}
use Rattle.sf_model.specs.declared.parts.Shape.{Shape}
use Rattle.sf_model.specs.declared.plan.Spot.{Spot}
use Rattle.sf_model.specs.Tree.{Tree, Leaf, Beside, Above, leaves, HasEachOnce}
use Rattle.sf_model.specs.Wire.{spot_of, spread}
use Rattle.sf_polish.specs.Postfix.{IsSkewed}
use Rattle.sf_cuts.specs.declared.axis.Axis.{Axis}
use Rattle.sf_cuts.specs.declared.axis.Axis.TheVariants.{Across, Upward}

-- where a spot begins along an axis
abbrev pub begin_on : Axis → Spot → ℤ
begin_on Across s = s.x
begin_on Upward s = s.y

-- its side along the axis
abbrev pub side_on : Axis → Spot → ℕ
side_on Across s = s.w
side_on Upward s = s.h

-- where it ends
abbrev pub end_on : Axis → Spot → ℤ
end_on axis s = begin_on axis s +ℤ pos (side_on axis s)

-- some place along the axis has all blocks of the first part end at or before it, and all blocks of the second part begin at or after it
pub record IsCutBetween (axis : Axis) (spots : List Spot) (first second : Tree) : Type 0 where
  pub at : ℤ
  pub before : All (λ leaf. end_on axis (spot_of leaf.0 spots) ≤ℤ at) (leaves first)
  pub after : All (λ leaf. at ≤ℤ begin_on axis (spot_of leaf.0 spots)) (leaves second)

-- the tree cuts the placement of its blocks, whatever the shapes of its leaves
abbrev pub Cuts : List Spot → Tree → Type 0
Cuts spots (Leaf b s) = Unit {0}
Cuts spots (Beside l r) = IsCutBetween Across spots l r × Cuts spots l × Cuts spots r
Cuts spots (Above l r) = IsCutBetween Upward spots l r × Cuts spots l × Cuts spots r

-- some tree of all blocks cuts the placement
abbrev pub IsSlicing : List Spot → Type 0
IsSlicing spots = (tree : Tree) × HasEachOnce (length spots) tree × Cuts spots tree

-- the sides of a spot
abbrev pub size_of : Spot → Shape
size_of s = record { w = s.w; h = s.h }

-- a skewed tree that cuts the placement, with each block as one leaf, in the size of its spot
pub record IsCut (spots : List Spot) (tree : Tree) : Type 0 where
  pub each_once : HasEachOnce (length spots) tree
  pub cuts : Cuts spots tree
  pub skewed : IsSkewed tree
  pub sizes : All (λ leaf. leaf.1 ≡ size_of (spot_of leaf.0 spots)) (leaves tree)

-- from where the first spot begins to where the last one ends
abbrev pub extent : Axis → List Spot → ℕ
extent axis spots = spread (map (begin_on axis) spots ++ map (end_on axis) spots)
