-- The standard bound of a subproblem.
use Rattle.std.specs.Prelude.{◌≡◌, ℕ, ◌+◌, ◌*◌, max, min, List, [], ◌∷◌, ◌++◌, length, map, zip, sum, sum_by, Bool, false, not, nat_lt, ◌==◌, if◌then◌else◌}
use Rattle.std.specs.List.{list_all, list_any}
use Rattle.sf_model.specs.declared.design.Design.{Design}
use Rattle.sf_model.specs.declared.parts.Net.{Net}
use Rattle.sf_model.specs.declared.parts.Pin.{Pin}
use Rattle.sf_model.specs.declared.TheConstants.{MAX}
use Rattle.sf_model.specs.Cost.{cost}
use Rattle.sf_model.specs.Tree.{Tree, width, height}
use Rattle.sf_node.specs.declared.part.Part.{Part}
use Rattle.sf_node.specs.declared.part.Part.TheVariants as by
use Rattle.sf_node.specs.Parts.{Parts}
use Rattle.sf_node.specs.Subproblem.{is_complete, is_wide, is_solved}
use Rattle.sf_standard.specs.Items.{Item, items_of, unused, fitting}
use Rattle.sf_standard.specs.Hull.{extent_in, range_part, pair_part, hull_part}

-- the least of f over the plans, or MAX where there is none
abbrev pub least_of : (Tree → ℕ) → List Tree → ℕ
least_of f [] = MAX
least_of f (t ∷ ts) = min (f t) (least_of f ts)

-- the area of a plan
abbrev pub area : Tree → ℕ
area t = width t * height t

-- the least cost of the plans of these items that fit
abbrev pub least_cost : Design → Parts → List Item → ℕ
least_cost design node [] = MAX
least_cost design node (item ∷ items) = least_of (cost design) (fitting design node item)

-- there is no plan
abbrev pub has_none : List Tree → Bool
has_none ts = length ts == 0

-- the greatest number, or 0
abbrev pub greatest : List ℕ → ℕ
greatest [] = 0
greatest (n ∷ ns) = max n (greatest ns)

-- the area that is needed: by the sum of the parts, and by the widest and the highest part. A size that another is no larger than changes none of these least values
abbrev pub needed_area : List (List Tree) → ℕ
needed_area plans =
    max (sum (map (least_of area) plans))
    (greatest (map (least_of width) plans) * greatest (map (least_of height) plans))

-- the area that is taken to be needed: what the plans of the parts need, or what the design knows of its area where that is more
abbrev pub area_part : Design → List (List Tree) → ℕ
area_part design plans = max (needed_area plans) design.area_floor

-- what a wire that joins these pins is at least: the greatest of range, pair and hull, and nothing with fewer than two pins
abbrev pub pins_part : Design → Parts → List Pin → ℕ
pins_part design node pins =
    let extent = extent_in design node in
    if nat_lt (length pins) 2 then 0
    else max (range_part design extent pins) (max (pair_part extent pins) (hull_part design extent (is_complete node) (items_of node) pins))

-- what the wire of a net is at least
abbrev pub net_part : Design → Parts → Net → ℕ
net_part design node net = pins_part design node net.pins

-- the same as often as the net's weight says
abbrev pub weighed_part : Design → Parts → Net → ℕ
weighed_part design node net = net.weight * net_part design node net

-- what the wires of all nets are at least
abbrev pub wire_part : Design → Parts → ℕ
wire_part design node = sum_by (weighed_part design node) design.nets

-- the same by what paths leave of each net's weight
abbrev pub rest_part : Design → Parts → ℕ
rest_part design node = sum_by (λ n. n.0 * net_part design node n.1) (zip design.routes.left design.nets)

-- what the wires are at least, by the nets alone or by paths, whichever is more: how far the ends of the paths are apart, with what these leave of the nets
abbrev pub full_part : Design → Parts → ℕ
full_part design node = max (wire_part design node) (design.routes.wires + rest_part design node)

-- what one part of the bound takes the wire that joins these pins to be at least, nothing with fewer than two pins; areas know no wires
abbrev pub pins_by : Design → Parts → List Pin → Part → ℕ
pins_by design node pins by.Area = 0
pins_by design node pins by.Range = if nat_lt (length pins) 2 then 0 else range_part design (extent_in design node) pins
pins_by design node pins by.Pair = if nat_lt (length pins) 2 then 0 else pair_part (extent_in design node) pins
pins_by design node pins by.Hull = if nat_lt (length pins) 2 then 0 else hull_part design (extent_in design node) (is_complete node) (items_of node) pins
pins_by design node pins by.Full = pins_part design node pins

-- the sum over all nets, each as often as its weight says
abbrev pub nets_by : Design → Parts → Part → ℕ
nets_by design node part = sum_by (λ net. net.weight * pins_by design node net.pins part) design.nets

-- what one part of the bound takes all wires to be at least: the full one looks at paths too
abbrev pub wires_by : Design → Parts → Part → ℕ
wires_by design node by.Full = full_part design node
wires_by design node part = nets_by design node part

-- the plans of each item and of each unused block
abbrev pub plans_of : Design → Parts → List (List Tree)
plans_of design node = map (fitting design node) (items_of node ++ unused node)

-- each item and each unused block has a plan in the outline
abbrev pub AllHavePlans : Design → Parts → Type 0
AllHavePlans design node = list_any has_none (plans_of design node) ≡ false

-- what these wires and the area cost that is needed for some parts, or MAX where a part has no plan or they have no room
abbrev pub bounded : Design → ℕ → List (List Tree) → ℕ
bounded design wires plans =
    if list_any has_none plans then MAX
    else (if nat_lt (design.outline.w * design.outline.h) (area_part design plans) then MAX
    else (design.weights.area * area_part design plans + design.weights.wire * wires))

-- the value from the area that the items and the unused blocks need and from the wires
abbrev pub open_value : Design → Parts → ℕ
open_value design node = bounded design (full_part design node) (plans_of design node)

-- the value that the standard bound gives a subproblem: the least cost where it is solved
abbrev pub standard : Design → Parts → ℕ
standard design node = if is_solved design node then least_cost design node (items_of node) else open_value design node

-- the value of each part of the bound at a subproblem, solved or not: the full one is the standard bound
abbrev pub part_value : Design → Parts → Part → ℕ
part_value design node by.Full = standard design node
part_value design node part = bounded design (wires_by design node part) (plans_of design node)

-- each block's span has one place
abbrev pub has_single_spans : Parts → Bool
has_single_spans node = list_all (λ span. not (is_wide span)) node.spans
