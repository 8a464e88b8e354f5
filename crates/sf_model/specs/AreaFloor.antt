-- What no floorplan's area undercuts, said of blocks and an outline alone.
use Rattle.std.specs.Prelude.{ℕ, ◌*◌, ◌≤◌, List, [], length, All, Contains, slice_index_or}
use Rattle.sf_model.specs.declared.parts.Block.{Block}
use Rattle.sf_model.specs.declared.parts.Outline.{Outline}
use Rattle.sf_model.specs.declared.parts.Shape.{Shape}
use Rattle.sf_model.specs.Tree.{Tree, width, height, leaves, HasEachOnce}

-- the shapes of a block by its number, and none past the last block
abbrev pub shapes_at : List Block → ℕ → List Shape
shapes_at blocks b = (slice_index_or blocks b (record { name = []; shapes = [] })).shapes

-- no plan in the outline that has each block as one leaf, in a shape of its list, has a lesser area
abbrev pub IsAreaFloorIn : List Block → Outline → ℕ → Type 0
IsAreaFloorIn blocks outline floor =
    (tree : Tree) → HasEachOnce (length blocks) tree → All (λ leaf. Contains (shapes_at blocks leaf.0) leaf.1) (leaves tree)
    → width tree ≤ outline.w → height tree ≤ outline.h → floor ≤ width tree * height tree
