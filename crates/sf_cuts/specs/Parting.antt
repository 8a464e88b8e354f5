-- How the code goes, and nothing that the crate promises: spots parted along an axis, and the tree of some of the spots.
use Rattle.std.specs.Prelude.{◌≡◌, ℕ, ◌<◌, ◌≤◌, List, length, map, ◌++◌, All, count_by, ◌==◌, ◌||◌, Bool, IsTrue, ℤ, ◌≤ℤ◌, slice_index_or, IsPermutation}
use Rattle.sf_model.specs.declared.plan.Spot.{Spot}
use Rattle.sf_model.specs.Tree.{Tree, Leaf, Beside, Above, leaves}
use Rattle.sf_model.specs.Wire.{spot_of}
use Rattle.sf_polish.specs.Postfix.{IsSkewed, is_beside, is_above}
use Rattle.sf_cuts.specs.declared.axis.Axis.{Axis}
use Rattle.sf_cuts.specs.declared.axis.Axis.TheVariants.{Across, Upward}
use Rattle.sf_cuts.specs.declared.parting.Parts.{Parts}
use Rattle.sf_cuts.specs.Cuts.{begin_on, side_on, end_on, Cuts, size_of}

-- s begins before t along the axis, or with it and is no longer
abbrev pub IsNoLater : Axis → Spot → Spot → Type 0
IsNoLater axis s t = (begin_on axis s ≤ℤ begin_on axis t) × (begin_on axis s ≡ begin_on axis t → side_on axis s ≤ side_on axis t)

-- the spots before this place end at or before where the spot at it begins
pub record IsCutPlace (axis : Axis) (spots : List Spot) (place : ℕ) : Type 0 where
  pub some : 1 ≤ place
  pub within : place < length spots
  pub before : (i : ℕ) (d : Spot) → i < place → end_on axis (slice_index_or spots i d) ≤ℤ begin_on axis (slice_index_or spots place d)

-- no later place before this end is one
pub record IsLastPlace (axis : Axis) (spots : List Spot) (end place : ℕ) : Type 0 where
  pub is_place : IsCutPlace axis spots place
  pub last : (k : ℕ) → place < k → k < end → ¬ (IsCutPlace axis spots k)

-- the spots in two parts: some place along the axis has the one end at or before it, and the other begin at or after it
pub record AreParts (axis : Axis) (spots first second : List Spot) : Type 0 where
  pub all : IsPermutation spots (first ++ second)
  pub some_first : 1 ≤ length first
  pub some_second : 1 ≤ length second
  pub at : ℤ
  pub before : All (λ s. end_on axis s ≤ℤ at) first
  pub after : All (λ s. at ≤ℤ begin_on axis s) second

-- the spots have such parts
pub record CanBeCut (axis : Axis) (spots : List Spot) : Type 0 where
  pub first : List Spot
  pub second : List Spot
  pub parts : AreParts axis spots first second

-- these are such parts, and the second part has none along the same axis
pub record ArePartsOf (spots : List Spot) (p : Parts) : Type 0 where
  pub parts : AreParts p.axis spots p.first.items p.second.items
  pub last : ¬ (CanBeCut p.axis p.second.items)

-- whether a block is a leaf
abbrev pub has_leaf : ℕ → Tree → Bool
has_leaf b (Leaf c s) = c == b
has_leaf b (Beside l r) = has_leaf b l || has_leaf b r
has_leaf b (Above l r) = has_leaf b l || has_leaf b r

-- each of these spots' blocks is a leaf, maybe among others
abbrev pub Covers : Tree → List Spot → Type 0
Covers tree spots = All (λ s. IsTrue (has_leaf s.block tree)) spots

-- the spots are those of distinct blocks
abbrev pub AreDistinct : List Spot → Type 0
AreDistinct spots = (b : ℕ) → count_by (λ s. s.block == b) spots ≤ 1

-- each of these spots is the one that the placement has for its block
abbrev pub AreAmong : List Spot → List Spot → Type 0
AreAmong placed spots = All (λ s. spot_of s.block placed ≡ s) spots

-- a skewed tree of the blocks of these spots that cuts the placement, each leaf in the size of its spot
pub record IsCutOf (placed spots : List Spot) (tree : Tree) : Type 0 where
  pub blocks : IsPermutation (map (λ s. s.block) spots) (map (λ leaf. leaf.0) (leaves tree))
  pub cuts : Cuts placed tree
  pub skewed : IsSkewed tree
  pub sizes : All (λ leaf. leaf.1 ≡ size_of (spot_of leaf.0 placed)) (leaves tree)
  pub beside : IsTrue (is_beside tree) → CanBeCut Across spots
  pub above : IsTrue (is_above tree) → CanBeCut Upward spots

-- no tree of these blocks, and maybe others, cuts the placement
abbrev pub NoneCuts : List Spot → List Spot → Type 0
NoneCuts placed spots = (tree : Tree) → Covers tree spots → ¬ (Cuts placed tree)

-- the tree of one spot
abbrev pub leaf_of : Spot → Tree
leaf_of s = Leaf s.block (size_of s)

-- two trees joined along an axis
abbrev pub joined : Axis → Tree → Tree → Tree
joined Across l r = Beside l r
joined Upward l r = Above l r
