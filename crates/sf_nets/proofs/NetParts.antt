-- The parts of a net make its bound.
use Rattle.std.proofs.Common.{◌≡◌, ℕ, ◌+◌, ◌<◌, ◌≤◌, max, List, [], ◌∷◌, map, length, get_or, refl, ap, sym, subst, ◌∙◌, arith, true, false, if◌then◌else◌}
use Rattle.sf_nets.proofs.Common.{nat_lt, None, AllByRecursion, cond-false, le-ltb, length-reverse, recursion_from_All, Design, Net, Pin, block_count, pin_number, pin_count, Range, Pair, Hull, Parts, is_complete, IsSubproblem, items_of, gap, range_x, range_y, range_part, pair_part, small_side, block_pins, greatest_two, hull_part, extent_in, pins_by, whole-item, Layout, WireParts, anywhere, reach_gap, AreByPart, IsNet, IsLayout, IsReady, block_range, standing_at, pin_range, shared_ranges, paired_sides, shared_homes, shared_in, greatest_gap}
use Rattle.sf_model.specs.declared.parts.Pin.TheVariants as pin
use Rattle.sf_nets.proofs.Hulls.{open_hull, whole_hull}
use Rattle.sf_nets.proofs.Pairing.{pair_sum}
use Rattle.sf_nets.proofs.Ranges.{range_is}
use Rattle.sf_nets.proofs.PinLoops.{ready_more}
use Rattle.sf_nets.proofs.ReadyLayout.{held-count, extent-same, standing-is, readied}

-- functions that agree on each element map a list alike
map-same : {X Y : Type 0} (f g : X → Y) (xs : List X) → AllByRecursion (λ x. f x ≡ g x) xs → map f xs ≡ map g xs
map-same f g [] h = refl
map-same f g (x ∷ xs) h = ap (λ v. v ∷ map f xs) h.0 ∙ ap (λ v. g x ∷ v) (map-same f g xs h.1)

module _ (design : Design) (node : Parts) (layout : Layout) (m : IsLayout design node layout) where
  -- the block or pad of a pin is there
  abbrev there : Pin → Type 0
  there p = pin_number p < pin_count (length design.blocks) (length design.pads) p

  -- the table has the range of each pin
  range-same : (p : Pin) → there p → pin_range design layout.table.items p ≡ (record { across = range_x design (extent_in design node) p; upward = range_y design (extent_in design node) p })
  range-same (pin.Block b) h =
      ap (λ v. v.range) (standing-is design node layout m b h (record { side = 0; range = anywhere; home = None })) ∙ ap (block_range design) (extent-same design node layout m b h)
  range-same (pin.Pad p) h = refl

  -- and the lesser side of each block
  side-same : (b : ℕ) → b < block_count design → (standing_at layout.table.items b).side ≡ small_side (extent_in design node b)
  side-same b h =
      ap (λ v. v.side) (standing-is design node layout m b h (record { side = 0; range = anywhere; home = None })) ∙ ap small_side (extent-same design node layout m b h)

  -- functions that agree on each pin which is there agree along pins that are there
  each-same : {Y : Type 0} (f g : Pin → Y) → ((p : Pin) → there p → f p ≡ g p) → (pins : List Pin) → AllByRecursion there pins → AllByRecursion (λ p. f p ≡ g p) pins
  each-same f g h [] all = tt
  each-same f g h (p ∷ pins) all = (h p all.0, each-same f g h pins all.1)

  -- the lesser sides along some pins
  sides-same : (pins : List Pin) → AllByRecursion there pins → map (λ b. (standing_at layout.table.items b).side) (block_pins pins) ≡ map (λ b. small_side (extent_in design node b)) (block_pins pins)
  sides-same [] h = refl
  sides-same (pin.Block b ∷ pins) h =
      ap (λ v. v ∷ map (λ b. (standing_at layout.table.items b).side) (block_pins pins)) (side-same b h.0)
      ∙ ap (λ v. small_side (extent_in design node b) ∷ v) (sides-same pins h.1)
  sides-same (pin.Pad p ∷ pins) h = sides-same pins h.1

  module _ (sub : IsSubproblem design node) (pins : List Pin) (inside : IsNet design pins) where
    -- what the pins share in the outline tells the range part
    range-part : reach_gap (shared_ranges design layout.table.items pins) ≡ range_part design (extent_in design node) pins
    range-part =
        let ext = extent_in design node in
        let table = layout.table.items in
        let all = recursion_from_All there pins inside in
        let x : map (λ p. (pin_range design table p).across) pins ≡ map (range_x design ext) pins =
        map-same (λ p. (pin_range design table p).across) (range_x design ext) pins (each-same (λ p. (pin_range design table p).across) (range_x design ext) (λ p h. ap (λ v. v.across) (range-same p h)) pins all) in
        let y : map (λ p. (pin_range design table p).upward) pins ≡ map (range_y design ext) pins =
        map-same (λ p. (pin_range design table p).upward) (range_y design ext) pins (each-same (λ p. (pin_range design table p).upward) (range_y design ext) (λ p h. ap (λ v. v.upward) (range-same p h)) pins all) in
        range_is design table (length layout.held.items) (readied design node layout m) pins inside
        ∙ ap (λ v. gap v + gap (map (λ p. (pin_range design table p).upward) pins)) x ∙ ap (λ v. gap (map (range_x design ext) pins) + gap v) y

    -- the greatest sum of two sides is the pair part
    pair-part : (paired_sides layout.table.items pins).sum ≡ pair_part (extent_in design node) pins
    pair-part = pair_sum layout.table.items pins ∙ ap greatest_two (sides-same pins (recursion_from_All there pins inside))

    -- a part of two pins or more
    counts : (x y : ℕ) → 2 ≤ length pins → x ≡ y → x ≡ (if nat_lt (length pins) 2 then 0 else y)
    counts x y two e = e ∙ sym (cond-false (nat_lt (length pins) 2) 0 y (le-ltb (length pins) 2 two))

    -- with the hull they are what the pins take by each part
    parts : (w : WireParts) → 2 ≤ length pins → w.range ≡ reach_gap (shared_ranges design layout.table.items pins) → w.pair ≡ (paired_sides layout.table.items pins).sum → w.hull ≡ hull_part design (extent_in design node) (is_complete node) (items_of node) pins → w.full ≡ max w.range (max w.pair w.hull) → AreByPart (pins_by design node pins) w
    parts w two range pair hull full =
        let ext = extent_in design node in
        record {
          range = counts w.range (range_part design ext pins) two (range ∙ range-part);
          pair = counts w.pair (pair_part ext pins) two (pair ∙ pair-part);
          hull = counts w.hull (hull_part design ext (is_complete node) (items_of node) pins) two hull;
          full = counts w.full (max (range_part design ext pins) (max (pair_part ext pins) (hull_part design ext (is_complete node) (items_of node) pins))) two (omega (arith, full, range ∙ range-part, pair ∙ pair-part, hull));
        }

    -- each of them alone
    pub range_counts : (n : ℕ) → 2 ≤ length pins → n ≡ reach_gap (shared_ranges design layout.table.items pins) → n ≡ pins_by design node pins Range
    range_counts n two e = counts n (range_part design (extent_in design node) pins) two (e ∙ range-part)

    -- the greatest sum of two sides is what the pins take by the pair part
    pub pair_counts : (n : ℕ) → 2 ≤ length pins → n ≡ (paired_sides layout.table.items pins).sum → n ≡ pins_by design node pins Pair
    pair_counts n two e = counts n (pair_part (extent_in design node) pins) two (e ∙ pair-part)

    -- what the homes in the one item of a complete subproblem share tells what the pins take by the hull part
    pub whole_counts : (n : ℕ) → is_complete node ≡ true → 2 ≤ length pins → n ≡ reach_gap (shared_homes design layout.table.items pins) → n ≡ pins_by design node pins Hull
    whole_counts n complete two e =
        counts n (hull_part design (extent_in design node) (is_complete node) (items_of node) pins) two (e ∙ whole_hull design node layout sub m pins inside complete)

    -- the greatest gap of an incomplete subproblem's items is what the pins take by the hull part
    pub open_counts : (n : ℕ) → is_complete node ≡ false → 2 ≤ length pins → n ≡ greatest_gap design layout.table.items false (shared_in design layout.table.items false pins) pins → n ≡ pins_by design node pins Hull
    open_counts n incomplete two e =
        counts n (hull_part design (extent_in design node) (is_complete node) (items_of node) pins) two (e ∙ open_hull design node layout sub m pins inside incomplete)

    -- all of them together
    pub whole_are : (w : WireParts) → is_complete node ≡ true → 2 ≤ length pins → w.range ≡ reach_gap (shared_ranges design layout.table.items pins) → w.pair ≡ (paired_sides layout.table.items pins).sum → w.hull ≡ reach_gap (shared_homes design layout.table.items pins) → w.full ≡ max w.range (max w.pair w.hull) → AreByPart (pins_by design node pins) w
    whole_are w complete two range pair hull = parts w two range pair (hull ∙ whole_hull design node layout sub m pins inside complete)

    -- in an incomplete subproblem all four numbers are what the pins take by each part
    pub open_are : (w : WireParts) → is_complete node ≡ false → 2 ≤ length pins → w.range ≡ reach_gap (shared_ranges design layout.table.items pins) → w.pair ≡ (paired_sides layout.table.items pins).sum → w.hull ≡ greatest_gap design layout.table.items false (shared_in design layout.table.items false pins) pins → w.full ≡ max w.range (max w.pair w.hull) → AreByPart (pins_by design node pins) w
    open_are w incomplete two range pair hull = parts w two range pair (hull ∙ open_hull design node layout sub m pins inside incomplete)

-- the one item of a complete subproblem
pub ready_whole : (design : Design) (node : Parts) (layout : Layout) → IsSubproblem design node → IsLayout design node layout → is_complete node ≡ true → IsReady design 1 layout.table.items
ready_whole design node layout sub m complete =
    ready_more design (length layout.held.items) 1 layout.table.items
    (omega (arith, held-count design node layout m, length-reverse (items_of node), ap length (whole-item design node sub complete).1.items)) (readied design node layout m)

-- a table tells the items of a layout to whoever has room for that many
pub ready_open : (design : Design) (node : Parts) (layout : Layout) (n : ℕ) → IsLayout design node layout → length layout.held.items ≤ n → IsReady design n layout.table.items
ready_open design node layout n m le = ready_more design (length layout.held.items) n layout.table.items le (readied design node layout m)

-- the pins of a design's net are there
pub net_inside : (design : Design) (i : ℕ) (net d : Net) → i < length design.nets → net ≡ get_or design.nets i d → IsNet design net.pins
net_inside design i net d lt e = subst (λ n. IsNet design n.pins) (sym e) (design.limits.pins i d lt).in_range
