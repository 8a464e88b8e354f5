-- What the wire of a net is at least: range, pair and hull, each defined over the list of the net's pins.
use Rattle.std.specs.Prelude.{ℕ, ◌+◌, ◌*◌, max, min, List, [], ◌∷◌, ◌++◌, map, fold, Bool, true, false, cond, ◌==◌, if◌then◌else◌, ℤ, pos, ◌-ℤ◌, ◌*ℤ◌}
use Rattle.std.specs.Int.{int_max, int_min}
use Rattle.sf_model.specs.declared.design.Design.{Design}
use Rattle.sf_model.specs.declared.parts.Pin.{Pin}
use Rattle.sf_model.specs.declared.parts.Pin.TheVariants as pin
use Rattle.sf_model.specs.declared.parts.Shape.{Shape}
pub use Rattle.sf_model.specs.Paths.{to_nat}
use Rattle.sf_model.specs.Spans.{shapes_in}
use Rattle.sf_model.specs.Wire.{pad_at}
use Rattle.sf_node.specs.Parts.{Parts}
use Rattle.sf_standard.specs.declared.hull.Extent.{Extent}
use Rattle.sf_standard.specs.declared.hull.Interval.{Interval}
use Rattle.sf_standard.specs.declared.hull.Offset.{Offset}
use Rattle.sf_standard.specs.Items.{Item, Block, Beside, Above}

-- the least and the greatest sides of some shapes
abbrev pub extent_of : List Shape → Extent
extent_of [] = record { least_w = 0; most_w = 0; least_h = 0; most_h = 0 }
extent_of (s ∷ ss) = record {
  least_w = fold (λ n t. min n t.w) s.w ss;
  most_w = fold (λ n t. max n t.w) s.w ss;
  least_h = fold (λ n t. min n t.h) s.h ss;
  most_h = fold (λ n t. max n t.h) s.h ss;
}

-- the least and the greatest sides of a block by the shapes in its span
abbrev pub extent_in : Design → Parts → ℕ → Extent
extent_in design node b = extent_of (shapes_in design node.spans b)

-- the greatest lower end less the least upper end, or 0
abbrev pub gap : List Interval → ℕ
gap [] = 0
gap (i ∷ is) = to_nat (fold (λ z j. int_max z j.low) i.low is -ℤ fold (λ z j. int_min z j.high) i.high is)

-- a point, in doubled units
abbrev pub point : ℤ → Interval
point z = record { low = pos 2 *ℤ z; high = pos 2 *ℤ z }

-- where a pin lies across, in doubled units, anywhere in the outline
abbrev pub range_x : Design → (ℕ → Extent) → Pin → Interval
range_x design extent (pin.Block b) = record { low = pos (extent b).least_w; high = pos (2 * design.outline.w) -ℤ pos (extent b).least_w }
range_x design extent (pin.Pad p) = point (pad_at design p).x

-- the same upward
abbrev pub range_y : Design → (ℕ → Extent) → Pin → Interval
range_y design extent (pin.Block b) = record { low = pos (extent b).least_h; high = pos (2 * design.outline.h) -ℤ pos (extent b).least_h }
range_y design extent (pin.Pad p) = point (pad_at design p).y

-- how far the pins are apart at least, since each lies in the outline
abbrev pub range_part : Design → (ℕ → Extent) → List Pin → ℕ
range_part design extent pins = gap (map (range_x design extent) pins) + gap (map (range_y design extent) pins)

-- the greatest sum of n and one of the numbers, or 0 with none
abbrev pub greatest_with : ℕ → List ℕ → ℕ
greatest_with n [] = 0
greatest_with n (m ∷ ms) = max (n + m) (greatest_with n ms)

-- the sum of the two greatest numbers, or 0 with fewer than two
abbrev pub greatest_two : List ℕ → ℕ
greatest_two [] = 0
greatest_two (n ∷ ns) = max (greatest_with n ns) (greatest_two ns)

-- the blocks among the pins
abbrev pub block_pins : List Pin → List ℕ
block_pins [] = []
block_pins (pin.Block b ∷ pins) = b ∷ block_pins pins
block_pins (pin.Pad p ∷ pins) = block_pins pins

-- the lesser of the least width and the least height
abbrev pub small_side : Extent → ℕ
small_side e = min e.least_w e.least_h

-- the sum of the two greatest small sides among the blocks: two blocks are apart by one side of each at least
abbrev pub pair_part : (ℕ → Extent) → List Pin → ℕ
pair_part extent pins = greatest_two (map (λ b. small_side (extent b)) (block_pins pins))

-- the least and greatest sides of an item, from those of its blocks
abbrev pub item_extent : (ℕ → Extent) → Item → Extent
item_extent extent (Block b) = extent b
item_extent extent (Beside l r) =
    let p = item_extent extent l in
    let q = item_extent extent r in
    record { least_w = p.least_w + q.least_w; most_w = p.most_w + q.most_w; least_h = max p.least_h q.least_h; most_h = max p.most_h q.most_h }
item_extent extent (Above l r) =
    let p = item_extent extent l in
    let q = item_extent extent r in
    record { least_w = max p.least_w q.least_w; most_w = max p.most_w q.most_w; least_h = p.least_h + q.least_h; most_h = p.most_h + q.most_h }

-- the offset of a block that stands to the right of an item
abbrev pub moved_right : Extent → Offset → Offset
moved_right e o = record o { least_x = e.least_w + o.least_x; most_x = e.most_w + o.most_x }

-- the same of a block that stands above
abbrev pub moved_up : Extent → Offset → Offset
moved_up e o = record o { least_y = e.least_h + o.least_y; most_y = e.most_h + o.most_y }

-- the offset of each block of an item from the item's corner, by its least and its greatest value
abbrev pub offsets : (ℕ → Extent) → Item → List Offset
offsets extent (Block b) = record { block = b; least_x = 0; most_x = 0; least_y = 0; most_y = 0 } ∷ []
offsets extent (Beside l r) =
    offsets extent l ++ map (moved_right (item_extent extent l)) (offsets extent r)
offsets extent (Above l r) =
    offsets extent l ++ map (moved_up (item_extent extent l)) (offsets extent r)

-- where the centre of a block lies across from the item's corner, in doubled units
abbrev pub offset_x : (ℕ → Extent) → Offset → Interval
offset_x extent o = record { low = pos (2 * o.least_x + (extent o.block).least_w); high = pos (2 * o.most_x + (extent o.block).most_w) }

-- the same upward
abbrev pub offset_y : (ℕ → Extent) → Offset → Interval
offset_y extent o = record { low = pos (2 * o.least_y + (extent o.block).least_h); high = pos (2 * o.most_y + (extent o.block).most_h) }

-- whether the block is among the pins
abbrev pub contains_pin : ℕ → List Pin → Bool
contains_pin b [] = false
contains_pin b (pin.Block c ∷ pins) = if c == b then true else contains_pin b pins
contains_pin b (pin.Pad p ∷ pins) = contains_pin b pins

-- the offsets of the blocks that are among the pins
abbrev pub of_pins : List Pin → List Offset → List Offset
of_pins pins [] = []
of_pins pins (o ∷ os) = if contains_pin o.block pins then (o ∷ of_pins pins os) else of_pins pins os

-- where the pads among the pins lie across
abbrev pub pads_x : Design → List Pin → List Interval
pads_x design [] = []
pads_x design (pin.Block b ∷ pins) = pads_x design pins
pads_x design (pin.Pad p ∷ pins) = point (pad_at design p).x ∷ pads_x design pins

-- the same upward
abbrev pub pads_y : Design → List Pin → List Interval
pads_y design [] = []
pads_y design (pin.Block b ∷ pins) = pads_y design pins
pads_y design (pin.Pad p ∷ pins) = point (pad_at design p).y ∷ pads_y design pins

-- what the wire is at least since it joins the net's blocks in one item, and where the subproblem is complete the pads
abbrev pub hull_of : Design → (ℕ → Extent) → Bool → List Pin → Item → ℕ
hull_of design extent complete pins item =
    let os = of_pins pins (offsets extent item) in
    gap (map (offset_x extent) os ++ cond complete (pads_x design pins) [])
    + gap (map (offset_y extent) os ++ cond complete (pads_y design pins) [])

-- the greatest over all items
abbrev pub hull_part : Design → (ℕ → Extent) → Bool → List Item → List Pin → ℕ
hull_part design extent complete [] pins = 0
hull_part design extent complete (item ∷ items) pins = max (hull_of design extent complete pins item) (hull_part design extent complete items pins)
