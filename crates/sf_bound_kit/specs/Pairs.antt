-- What pairs of blocks need: of two blocks in a slicing floorplan one lies beside the other or above it.
use Rattle.std.specs.Prelude.{ℕ, ◌+◌, ◌*◌, max, min, List, [], ◌∷◌, ◌++◌, map, Bool, ◌&&◌, nat_lt, if◌then◌else◌}
use Rattle.std.specs.List.{list_any, range_with_len}
use Rattle.sf_model.specs.declared.design.Design.{Design}
use Rattle.sf_model.specs.declared.parts.Outline.{Outline}
use Rattle.sf_model.specs.declared.parts.Shape.{Shape}
use Rattle.sf_model.specs.declared.TheConstants.{MAX}
use Rattle.sf_model.specs.Legal.{block_count}
use Rattle.sf_model.specs.Spans.{shapes_in}
use Rattle.sf_node.specs.Parts.{Parts}
use Rattle.sf_standard.specs.Hull.{extent_of}
use Rattle.sf_standard.specs.Standard.{greatest}

-- each two of a list, the earlier one first
abbrev pub each_two : List Shape → List (Shape × Shape)
each_two [] = []
each_two (s ∷ ss) = map (λ t. (s, t)) ss ++ each_two ss

-- the least width and the least height of some shapes
abbrev pub least_sides : List Shape → Shape
least_sides shapes = record { w = (extent_of shapes).least_w; h = (extent_of shapes).least_h }

-- those of a block by the shapes of its span
abbrev pub sides_in : Design → Parts → ℕ → Shape
sides_in design node b = least_sides (shapes_in design node.spans b)

-- those of the first sixteen blocks
abbrev pub first_sides : Design → Parts → List Shape
first_sides design node = map (sides_in design node) (range_with_len 0 (min 16 (block_count design)))

-- the area that two blocks of these sides need: where one lies beside the other, and where one lies above the other, the lesser of both
abbrev pub area_of_two : Shape × Shape → ℕ
area_of_two two = min ((two.0.w + two.1.w) * max two.0.h two.1.h) ((two.0.h + two.1.h) * max two.0.w two.1.w)

-- what the area costs at least that some two of the first blocks need
abbrev pub pair_area : Design → Parts → ℕ
pair_area design node = design.weights.area * greatest (map area_of_two (each_two (first_sides design node)))

-- two blocks of these sides have no room beside one another, nor above one another
abbrev pub have_no_room : Outline → Shape × Shape → Bool
have_no_room outline two = nat_lt outline.w (two.0.w + two.1.w) && nat_lt outline.h (two.0.h + two.1.h)

-- MAX where some two of the first blocks have no room
abbrev pub pair_fit : Design → Parts → ℕ
pair_fit design node = if list_any (have_no_room design.outline) (each_two (first_sides design node)) then MAX else 0
