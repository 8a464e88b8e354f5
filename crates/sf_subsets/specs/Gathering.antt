-- How the table is made and read, and nothing that the crate promises.
use Rattle.std.specs.Prelude.{◌≡◌, ℕ, ◌+◌, ◌-◌, ◌^◌, ◌<◌, ◌≤◌, ◌⊎◌, List, [], All, Contains, length, slice_index, slice_index_or}
use Rattle.sf_model.specs.declared.design.Design.{Design}
use Rattle.sf_model.specs.declared.parts.Outline.{Outline}
use Rattle.sf_model.specs.declared.parts.Shape.{Shape}
use Rattle.sf_model.specs.Legal.{shapes_of, block_count}
use Rattle.sf_model.specs.Tree.{Tree}
use Rattle.sf_curves.specs.declared.direction.Direction.{Direction}
use Rattle.sf_curves.specs.Direction.{size_in}
use Rattle.sf_curves.specs.Choices.{size_of}
use Rattle.sf_curves.specs.Points.{IsJoinOf, IsWithin, area_of}
use Rattle.sf_subsets.specs.declared.budget.Budget.{Budget}
use Rattle.sf_subsets.specs.declared.found.Found.{Found}
use Rattle.sf_subsets.specs.declared.table.Table.{Table}
use Rattle.sf_subsets.specs.declared.splitting.Split.{Split}
use Rattle.sf_subsets.specs.Sets.{IsPlanOf, IsPart, total}
use Rattle.sf_subsets.specs.Floors.{IsLeastSize}
use Rattle.sf_subsets.specs.Covering.{IsCoveredWithin, CoversPair, Covers}

-- the greatest area that a plan of the set may have
abbrev pub limit_of : Budget → ℕ → ℕ
limit_of budget set = total budget.leasts.items set + budget.dead

-- the sizes whose area is in the limit were added, and no other
pub record AddsSmall (limit : ℕ) (old sizes new : List Shape) : Type 0 where
  pub kept : (p : Shape) → Contains old p → Contains new p
  pub small : (p : Shape) → Contains sizes p → area_of p ≤ limit → Contains new p
  pub from : (p : Shape) → Contains new p → Contains old p ⊎ Contains sizes p

-- the point joins a point of each list, in either direction
abbrev pub IsJoined : List Shape → List Shape → Shape → Type 0
IsJoined left right p = (direction : Direction) × IsJoinOf (size_in direction) left right p

-- joins in one direction were added so that each within the limit is covered
pub record AddsJoins (direction : Direction) (outline : Outline) (limit : ℕ) (left right old new : List Shape) : Type 0 where
  pub kept : (p : Shape) → Contains old p → Contains new p
  pub covers : (p q : Shape) → Contains left p → Contains right q → IsCoveredWithin outline limit new (size_in direction p q)
  pub from : (p : Shape) → Contains new p → Contains old p ⊎ IsJoined left right p

-- joins in both directions were
pub record AddsPair (outline : Outline) (limit : ℕ) (left right old new : List Shape) : Type 0 where
  pub kept : (p : Shape) → Contains old p → Contains new p
  pub covers : CoversPair outline limit left right new
  pub from : (p : Shape) → Contains new p → Contains old p ⊎ IsJoined left right p

-- the curve of a set in a table
abbrev pub curve_at : List (List Shape) → ℕ → List Shape
curve_at curves set = slice_index_or curves set []

-- the point joins points of two sets into which the set splits: a part, which isn't empty, and what is left
pub record IsSplitJoin (curves : List (List Shape)) (set : ℕ) (p : Shape) : Type 0 where
  pub part : ℕ
  pub is_part : IsPart part set
  pub some : 0 < part
  pub less : part < set
  pub joined : IsJoined (curve_at curves (set - part)) (curve_at curves part) p

-- the joins of all splits of the set were added whose part lies in `rest` and is above `part`
pub record AddsSplits (outline : Outline) (limit : ℕ) (curves : List (List Shape)) (set rest part : ℕ) (old new : List Shape) : Type 0 where
  pub kept : (p : Shape) → Contains old p → Contains new p
  pub covers : (b : ℕ) → IsPart b rest → part < b → CoversPair outline limit (curve_at curves (set - b)) (curve_at curves b) new
  pub from : (p : Shape) → Contains new p → Contains old p ⊎ IsSplitJoin curves set p

-- the point is a shape of the only block of the set, or a join of a split
abbrev pub IsMade : Design → List (List Shape) → ℕ → Shape → Type 0
IsMade design curves set p =
    ((b : ℕ) × (set ≡ 2 ^ b) × Contains (shapes_of design b) p) ⊎ IsSplitJoin curves set p

-- each point of a curve is so made from the curves before it
abbrev pub AreMade : Design → List (List Shape) → Type 0
AreMade design curves =
    (set : ℕ) → set < length curves → (p : Shape) → Contains (curve_at curves set) p → IsMade design curves set p

-- the curve of a set
pub record IsSetCurve (design : Design) (budget : Budget) (curves : List (List Shape)) (set : ℕ) (points : List Shape) : Type 0 where
  pub covers : Covers design budget.leasts.items budget.dead set points
  pub within : All (IsWithin design.outline) points
  pub made : (p : Shape) → Contains points p → IsMade design curves set p

-- no point of a curve has a lesser area than the floor of that curve, and the floors are small
pub record HasFloors (table : Table) : Type 0 where
  pub count : length table.floors.items ≡ length table.curves.items
  pub floors : (set : ℕ) → set < length table.curves.items → All (λ p. slice_index table.floors.items set ≤ area_of p) (curve_at table.curves.items set)
  pub small : All (λ n. n ≤ 2 ^ 50) table.floors.items

-- the curves of all sets below a number
pub record IsTable (design : Design) (budget : Budget) (size : ℕ) (table : Table) : Type 0 where
  pub count : length table.curves.items ≡ size
  pub each : (set : ℕ) → set < size → IsSetCurve design budget table.curves.items set (curve_at table.curves.items set)
  pub floors : HasFloors table

-- the tree is a plan of the set of just this size
pub record IsPlanOfSize (design : Design) (set : ℕ) (size : Shape) (tree : Tree) : Type 0 where
  pub plan : IsPlanOf design set tree
  pub is : size_of tree ≡ size

-- the split leads to the size
pub record IsSplitOf (curves : List (List Shape)) (set : ℕ) (size : Shape) (split : Split) : Type 0 where
  pub is_part : IsPart split.part set
  pub some : 0 < split.part
  pub less : split.part < set
  pub first : Contains (curve_at curves (set - split.part)) split.first
  pub second : Contains (curve_at curves split.part) split.second
  pub is : size_in split.direction split.first split.second ≡ size

-- the size of a floorplan of least area, which is less than the limit, in a table that leads to it
pub record IsFoundBelow (design : Design) (limit : ℕ) (found : Found) : Type 0 where
  pub small : area_of found.size < limit
  pub least : IsLeastSize design found.size
  pub count : length found.table.curves.items ≡ 2 ^ block_count design
  pub made : AreMade design found.table.curves.items
  pub on : Contains (curve_at found.table.curves.items (2 ^ block_count design - 1)) found.size
