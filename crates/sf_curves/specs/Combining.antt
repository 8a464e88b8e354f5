-- How two curves are gone along side by side, and nothing that the crate promises.
use Rattle.std.specs.Prelude.{ℕ, ◌-◌, List, length, reverse, slice_index_or}
use Rattle.sf_model.specs.declared.parts.Shape.{Shape}
use Rattle.sf_curves.specs.declared.direction.Direction.{Direction}
use Rattle.sf_curves.specs.declared.direction.Direction.TheVariants.{Beside, Above}

-- the point after i others, from the highest one on, or from the widest one on
abbrev pub point_after : Direction → List Shape → ℕ → Shape
point_after Beside points i = slice_index_or points i (record { w = 0; h = 0 })
point_after Above points i = slice_index_or points (length points - 1 - i) (record { w = 0; h = 0 })

-- the side of a room of which the joined room has the greater one
abbrev pub shared_side : Direction → Shape → ℕ
shared_side Beside p = p.h
shared_side Above p = p.w

-- the sizes by width, which were found from the highest or from the widest one on
abbrev pub by_width : Direction → List Shape → List Shape
by_width Beside sizes = sizes
by_width Above sizes = reverse sizes
