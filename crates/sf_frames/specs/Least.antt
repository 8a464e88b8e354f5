-- The least values of curves.
use Rattle.std.specs.Prelude.{◌≡◌, ◌≢◌, ℕ, ◌≤◌, min, List, [], ◌∷◌, All}
use Rattle.sf_model.specs.declared.parts.Shape.{Shape}
use Rattle.sf_model.specs.declared.TheConstants.{MAX}
use Rattle.sf_curves.specs.Points.{area_of}
use Rattle.sf_frames.specs.declared.least.Least.{Least}

-- the least of f over the points, or MAX where there is none
abbrev pub least_by : (Shape → ℕ) → List Shape → ℕ
least_by f [] = MAX
least_by f (p ∷ ps) = min (f p) (least_by f ps)

-- the width of a size
abbrev pub width_of : Shape → ℕ
width_of p = p.w

-- the height of a size
abbrev pub height_of : Shape → ℕ
height_of p = p.h

-- the least values of a curve that is not empty
pub record IsLeastOf (points : List Shape) (l : Least) : Type 0 where
  pub some : points ≢ []
  pub area : l.area ≡ least_by area_of points
  pub width : l.w ≡ least_by width_of points
  pub height : l.h ≡ least_by height_of points

-- each side is at most 2^20
abbrev pub AllSmall : List Shape → Type 0
AllSmall points = All (λ p. (p.w ≤ 1048576) × (p.h ≤ 1048576)) points
