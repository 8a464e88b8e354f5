-- What the points of a curve say of the plans of a set of blocks.
use Rattle.std.specs.Prelude.{ℕ, ◌+◌, ◌≤◌, List, Any, Contains, slice_index}
use Rattle.sf_model.specs.declared.design.Design.{Design}
use Rattle.sf_model.specs.declared.parts.Outline.{Outline}
use Rattle.sf_model.specs.declared.parts.Shape.{Shape}
use Rattle.sf_model.specs.Legal.{shapes_of}
use Rattle.sf_model.specs.Tree.{Tree}
use Rattle.sf_curves.specs.declared.direction.Direction.{Direction}
use Rattle.sf_curves.specs.Choices.{size_of}
use Rattle.sf_curves.specs.Direction.{size_in}
use Rattle.sf_curves.specs.Points.{IsWithin, IsNoLarger, area_of}
use Rattle.sf_subsets.specs.Sets.{IsPlanOf, total}

-- no shape of the block that lies in the outline has a lesser area
abbrev pub IsLeastOf : Design → ℕ → ℕ → Type 0
IsLeastOf design b least =
    (s : Shape) → Contains (shapes_of design b) s → IsWithin design.outline s → least ≤ area_of s

-- such a number for each block
abbrev pub AreLeasts : Design → List ℕ → Type 0
AreLeasts design leasts = (b : ℕ) → IsLeastOf design b (slice_index leasts b)

-- if the size lies in the outline and its area in the limit, some point is no larger
abbrev pub IsCoveredWithin : Outline → ℕ → List Shape → Shape → Type 0
IsCoveredWithin outline limit points size =
    IsWithin outline size → area_of size ≤ limit → Any (λ p. IsNoLarger p size) points

-- each combination of two points, in either direction, is so covered
abbrev pub CoversPair : Outline → ℕ → List Shape → List Shape → List Shape → Type 0
CoversPair outline limit left right points =
    (p q : Shape) (d : Direction) → Contains left p → Contains right q → IsCoveredWithin outline limit points (size_in d p q)

-- each plan of the set that fits and wastes no more than so much is no smaller than some point
abbrev pub Covers : Design → List ℕ → ℕ → ℕ → List Shape → Type 0
Covers design leasts dead set points =
    (tree : Tree) → IsPlanOf design set tree → IsCoveredWithin design.outline (total leasts set + dead) points (size_of tree)
