-- Where each part of a subproblem has a plan in the outline, its wires are short.
use Rattle.std.proofs.Common.{◌≡◌, ℕ, ◌+◌, ◌-◌, ◌*◌, ◌^◌, ◌<◌, ◌≤◌, max, List, [], ◌∷◌, ◌++◌, map, length, arith, refl, ap, sym, subst, inl, inr, Bool, true, false, cond, ◌≤ℤ◌, ◌-ℤ◌, ◌||◌}
use Rattle.sf_standard.proofs.Common.{Contains, sum_by, zip, nat_lt, ℤ, pos, neg_ℤ, fold, AllByRecursion, list_any, mul-le-mul, mul-le-mul_left, ints, cases_lt, cond_both, true≢false, get_or_past, recursion_from_All, sum_by-cons, Design, Net, Pin, Shape, IsCoordinate, Tree, width, height, leaves, pad_at, each-append, each-weaker, each-map, each-left, Parts, is_complete, Contains-head, shapes_in, Item, items_of, unused, plans, fits, fitting, item_of, Extent, Interval, Offset, gap, point, range_x, range_y, range_part, greatest_with, greatest_two, block_pins, small_side, pair_part, item_extent, moved_right, moved_up, offsets, offset_x, offset_y, of_pins, pads_x, pads_y, hull_of, hull_part, extent_in, has_none, net_part, weighed_part, wire_part, rest_part, full_part, AllHavePlans, int_max, int_min, Pad, Spare, axis-spare, by_number, exchange, paths-nets, pulls-small, steps_of, to_nat-le, ArePathsOfAxis, IsPath, left_from, pull, uses, Path, Paths}
use Rattle.sf_model.specs.declared.parts.Pin.TheVariants as pin
use Rattle.sf_model.specs.Axes.{place_on}
use Rattle.sf_model.specs.declared.routing.Axis.{Axis}
use Rattle.sf_model.specs.declared.routing.Axis.TheVariants.{Across, Upward}
use Rattle.sf_standard.specs.Items as item
use Rattle.sf_standard.proofs.Exact.{plans-are, fits-from}
use Rattle.sf_standard.proofs.Gaps.{low-most, high-least, of-extent, IsOfExtent}
use Rattle.sf_standard.proofs.Listed.{each-joined, Contains-from_filter}
use Rattle.sf_standard.proofs.NetWires.{of-item-extent, each-of_pins}
use Rattle.sf_standard.proofs.Sides.{span-small}

-- the lower end lies not far above 0, and the upper end not far below
record IsShort (i : Interval) : Type 0 where
  low : i.low ≤ℤ pos (2 ^ 21)
  high : neg_ℤ (pos (2 ^ 21)) ≤ℤ i.high

-- the gap of short intervals is at most 2^22
gap-short : (is : List Interval) → AllByRecursion IsShort is → gap is ≤ 2 ^ 22
gap-short [] h = omega arith
gap-short (i ∷ is) h =
    let low = low-most i.low (pos (2 ^ 21)) is h.0.low (each-weaker IsShort (λ j. j.low ≤ℤ pos (2 ^ 21)) (λ j k. k.low) is h.1) in
    let high = high-least i.high (neg_ℤ (pos (2 ^ 21))) is h.0.high (each-weaker IsShort (λ j. neg_ℤ (pos (2 ^ 21)) ≤ℤ j.high) (λ j k. k.high) is h.1) in
    to_nat-le (fold (λ z j. int_max z j.low) i.low is -ℤ fold (λ z j. int_min z j.high) i.high is) (2 ^ 22) (omega (arith, ints, low, high))

-- the point of a pad is short
point-short : (z : ℤ) → IsCoordinate z → IsShort (point z)
point-short z h = record { low = omega (arith, ints, h.1); high = omega (arith, ints, h.0) }

-- the greatest sum of two numbers of at most 2^20 is at most 2^21
with-small : (n : ℕ) (ns : List ℕ) → n ≤ 2 ^ 20 → AllByRecursion (λ m. m ≤ 2 ^ 20) ns → greatest_with n ns ≤ 2 ^ 21
with-small n [] h k = omega arith
with-small n (m ∷ ms) h k = omega (arith, h, k.0, with-small n ms h k.1)

-- so is the sum of the two greatest
two-small : (ns : List ℕ) → AllByRecursion (λ m. m ≤ 2 ^ 20) ns → greatest_two ns ≤ 2 ^ 21
two-small [] h = omega arith
two-small (n ∷ ns) h = omega (arith, with-small n ns h.0 h.1, two-small ns h.1)

-- the block lies inside the least sides of its item
record IsWithin (extent : ℕ → Extent) (e : Extent) (o : Offset) : Type 0 where
  across : o.least_x + (extent o.block).least_w ≤ e.least_w
  upward : o.least_y + (extent o.block).least_h ≤ e.least_h

-- each block lies inside the least sides of its item
offsets-within : (extent : ℕ → Extent) (i : Item) → AllByRecursion (IsWithin extent (item_extent extent i)) (offsets extent i)
offsets-within extent (item.Block b) = (record { across = omega arith; upward = omega arith }, tt)
offsets-within extent (item.Beside l r) =
    each-joined (IsWithin extent (item_extent extent (item.Beside l r))) (IsWithin extent (item_extent extent l)) (IsWithin extent (item_extent extent r)) (moved_right (item_extent extent l)) (offsets extent l) (offsets extent r)
    (λ o k. record { across = omega (arith, k.across); upward = omega (arith, k.upward) }) (λ o k. record { across = omega (arith, k.across); upward = omega (arith, k.upward) }) (offsets-within extent l) (offsets-within extent r)
offsets-within extent (item.Above l r) =
    each-joined (IsWithin extent (item_extent extent (item.Above l r))) (IsWithin extent (item_extent extent l)) (IsWithin extent (item_extent extent r)) (moved_up (item_extent extent l)) (offsets extent l) (offsets extent r)
    (λ o k. record { across = omega (arith, k.across); upward = omega (arith, k.upward) }) (λ o k. record { across = omega (arith, k.across); upward = omega (arith, k.upward) }) (offsets-within extent l) (offsets-within extent r)

-- of an or that is false both sides are false
or-false : (a b : Bool) → (a || b) ≡ false → (a ≡ false) × (b ≡ false)
or-false true b h = absurd (true≢false h)
or-false false b h = (refl, h)

-- a list that is not empty has a plan
first-of : (ts : List Tree) → has_none ts ≡ false → (t : Tree) × Contains ts t
first-of [] h = absurd (true≢false h)
first-of (t ∷ ts) h = (t, Contains-head t ts)

module _ (design : Design) (node : Parts) where
  -- the extent of a block in its span
  abbrev extent : ℕ → Extent
  extent = extent_in design node

  -- what stands for a pad past the last
  no-pad : Pad
  no-pad = record { name = []; x = pos 0; y = pos 0 }

  -- the place of a pad is a coordinate
  pad-near : (p : ℕ) → IsCoordinate (pad_at design p).x × IsCoordinate (pad_at design p).y
  unfolding no-pad
  pad-near p =
      elim (cases_lt p (length design.pads)) [
        | inl lt ↦ design.limits.places p no-pad lt
        | inr le ↦ subst (λ q. IsCoordinate q.x × IsCoordinate q.y) (sym (get_or_past design.pads p no-pad le)) ((omega (arith, ints), omega (arith, ints)), (omega (arith, ints), omega (arith, ints)))
      ]

  -- the points of the pads are short across
  pads-short-x : (pins : List Pin) → AllByRecursion IsShort (pads_x design pins)
  pads-short-x [] = tt
  pads-short-x (pin.Block b ∷ pins) = pads-short-x pins
  pads-short-x (pin.Pad p ∷ pins) = (point-short (pad_at design p).x (pad-near p).0, pads-short-x pins)

  -- and upward
  pads-short-y : (pins : List Pin) → AllByRecursion IsShort (pads_y design pins)
  pads-short-y [] = tt
  pads-short-y (pin.Block b ∷ pins) = pads-short-y pins
  pads-short-y (pin.Pad p ∷ pins) = (point-short (pad_at design p).y (pad-near p).1, pads-short-y pins)

  -- so are those of a complete subproblem, and no points at all
  if-short : (complete : Bool) (is : List Interval) → AllByRecursion IsShort is → AllByRecursion IsShort (cond complete is [])
  if-short true is h = h
  if-short false is h = tt

  -- a list of short intervals
  map-short : (f : Pin → Interval) → ((p : Pin) → IsShort (f p)) → (pins : List Pin) → AllByRecursion IsShort (map f pins)
  map-short f h [] = tt
  map-short f h (p ∷ pins) = (h p, map-short f h pins)

  -- the range of a pin is short across
  range-x : (p : Pin) → IsShort (range_x design extent p)
  range-x (pin.Block b) = let s = (span-small design node b).least_w in record { low = omega (arith, ints, s); high = omega (arith, ints, s) }
  range-x (pin.Pad p) = point-short (pad_at design p).x (pad-near p).0

  -- and upward
  range-y : (p : Pin) → IsShort (range_y design extent p)
  range-y (pin.Block b) = let s = (span-small design node b).least_h in record { low = omega (arith, ints, s); high = omega (arith, ints, s) }
  range-y (pin.Pad p) = point-short (pad_at design p).y (pad-near p).1

  -- the range part of a net is at most 2^23
  range-short : (pins : List Pin) → range_part design extent pins ≤ 2 ^ 23
  range-short pins =
      omega (
        arith,
        gap-short (map (range_x design extent) pins) (map-short (range_x design extent) range-x pins),
        gap-short (map (range_y design extent) pins) (map-short (range_y design extent) range-y pins),
      )

  -- the small sides of blocks are at most 2^20
  sides-small : (bs : List ℕ) → AllByRecursion (λ m. m ≤ 2 ^ 20) (map (λ b. small_side (extent b)) bs)
  sides-small [] = tt
  sides-small (b ∷ bs) = (omega (arith, (span-small design node b).least_w), sides-small bs)

  -- the pair part of a net is at most 2^21
  pair-short : (pins : List Pin) → pair_part extent pins ≤ 2 ^ 21
  pair-short pins = two-small (map (λ b. small_side (extent b)) (block_pins pins)) (sides-small (block_pins pins))

  -- the least sides of the item are in the outline
  record IsNarrow (i : Item) : Type 0 where
    wide : (item_extent extent i).least_w ≤ design.outline.w
    high : (item_extent extent i).least_h ≤ design.outline.h

  -- an item that has a plan in the outline has its least sides there
  narrow : (i : Item) → has_none (fitting design node i) ≡ false → IsNarrow i
  narrow i some =
      let t = first-of (fitting design node i) some in
      let k = Contains-from_filter (fits design.outline) (plans (shapes_in design node.spans) i) t.0 t.1 in
      let p = plans-are (shapes_in design node.spans) i t.0 k.0 in
      let size = fits-from design.outline t.0 k.1 in
      let leaf = λ (l : ℕ × Shape). of-extent (shapes_in design node.spans l.0) l.1 in
      let of : IsOfExtent (item_extent extent (item_of t.0)) (width t.0) (height t.0) =
      of-item-extent extent t.0 (each-weaker (λ l. Contains (shapes_in design node.spans l.0) l.1) (λ l. IsOfExtent (extent l.0) l.1.w l.1.h) leaf (leaves t.0) p.listed) in
      let e = subst (λ j. IsOfExtent (item_extent extent j) (width t.0) (height t.0)) p.same of in
      record { wide = omega (arith, e.wide, size.0); high = omega (arith, e.high, size.1) }

  -- where the centre of a block of such an item lies is short across
  offset-short-x : (i : Item) → IsNarrow i → (o : Offset) → IsWithin extent (item_extent extent i) o → IsShort (offset_x extent o)
  offset-short-x i n o k = record { low = omega (arith, ints, n.wide, k.across, design.limits.width.1); high = omega (arith, ints) }

  -- and upward
  offset-short-y : (i : Item) → IsNarrow i → (o : Offset) → IsWithin extent (item_extent extent i) o → IsShort (offset_y extent o)
  offset-short-y i n o k = record { low = omega (arith, ints, n.high, k.upward, design.limits.height.1); high = omega (arith, ints) }

  -- the hull of such an item is at most 2^23
  hull-short : (complete : Bool) (pins : List Pin) (i : Item) → IsNarrow i → hull_of design extent complete pins i ≤ 2 ^ 23
  hull-short complete pins i n =
      let os = of_pins pins (offsets extent i) in
      let inside = each-of_pins (IsWithin extent (item_extent extent i)) pins (offsets extent i) (offsets-within extent i) in
      let across = each-append IsShort (map (offset_x extent) os) (cond complete (pads_x design pins) [])
      (each-map IsShort (offset_x extent) os (each-weaker _ (λ o. IsShort (offset_x extent o)) (λ o k. offset-short-x i n o k.1) os inside))
      (if-short complete (pads_x design pins) (pads-short-x pins)) in
      let upward = each-append IsShort (map (offset_y extent) os) (cond complete (pads_y design pins) [])
      (each-map IsShort (offset_y extent) os (each-weaker _ (λ o. IsShort (offset_y extent o)) (λ o k. offset-short-y i n o k.1) os inside))
      (if-short complete (pads_y design pins) (pads-short-y pins)) in
      omega (
        arith,
        gap-short (map (offset_x extent) os ++ cond complete (pads_x design pins) []) across,
        gap-short (map (offset_y extent) os ++ cond complete (pads_y design pins) []) upward,
      )

  -- so is the greatest hull of such items
  hulls-short : (complete : Bool) (pins : List Pin) (is : List Item) → AllByRecursion IsNarrow is → hull_part design extent complete is pins ≤ 2 ^ 23
  hulls-short complete pins [] h = omega arith
  hulls-short complete pins (i ∷ is) h = omega (arith, hull-short complete pins i h.0, hulls-short complete pins is h.1)

  -- where each item has a plan, all are such items
  all-narrow : (is : List Item) → list_any has_none (map (fitting design node) is) ≡ false → AllByRecursion IsNarrow is
  all-narrow [] h = tt
  all-narrow (i ∷ is) h =
      let k = or-false (has_none (fitting design node i)) (list_any has_none (map (fitting design node) is)) h in
      (narrow i k.0, all-narrow is k.1)

  module _ (have : AllHavePlans design node) where
    -- what the wire of a net is at least is at most 2^23
    net-short : (net : Net) → net_part design node net ≤ 2 ^ 23
    net-short net =
        let hull = hulls-short (is_complete node) net.pins (items_of node) (each-left IsNarrow (items_of node) (unused node) (all-narrow (items_of node ++ unused node) have)) in
        cond_both (nat_lt (length net.pins) 2) 0 (max (range_part design extent net.pins) (max (pair_part extent net.pins) (hull_part design extent (is_complete node) (items_of node) net.pins))) (λ v. v ≤ 2 ^ 23)
        (λ _. omega arith) (λ _. omega (arith, range-short net.pins, pair-short net.pins, hull))

    -- as often as its weight says, it is at most 255 times that
    weighed-short : (net : Net) → net.weight < 2 ^ 8 → weighed_part design node net ≤ 255 * 2 ^ 23
    weighed-short net light =
        let w : net.weight ≤ 255 = omega (arith, light) in
        mul-le-mul w (net-short net)

    -- the wires of some nets are at most that for each
    sum-short : (nets : List Net) → AllByRecursion (λ net. net.weight < 2 ^ 8) nets → sum_by (weighed_part design node) nets ≤ 255 * 2 ^ 23 * length nets
    sum-short [] light = omega arith
    sum-short (net ∷ nets) light = omega (arith, sum_by-cons (weighed_part design node) net nets, weighed-short net light.0, sum-short nets light.1)

    -- those of all nets stay below 2^47
    pub wires-short : wire_part design node < 2 ^ 47
    wires-short = omega (arith, sum-short design.nets (recursion_from_All (λ net. net.weight < 2 ^ 8) design.nets design.limits.net_weights), design.limits.few_nets)

    -- so do the ends of paths with what these leave of the nets
    routes-short : (paths : Paths) (i : ℕ) (nets : List Net) → Spare paths.across i nets → Spare paths.upward i nets → AllByRecursion (λ net. net.weight < 2 ^ 8) nets
        → 2 ^ 22 * by_number (λ j net. uses j paths.across * 1) i nets + 2 ^ 22 * by_number (λ j net. uses j paths.upward * 1) i nets
        + sum_by (λ n. n.0 * net_part design node n.1) (zip (left_from i paths nets) nets) ≤ 255 * 2 ^ 23 * length nets
    routes-short paths i [] a u light = omega arith
    routes-short paths i (net ∷ nets) a u light =
        let left = net.weight - max (uses i paths.across) (uses i paths.upward) in
        omega (
          arith,
          a.0,
          u.0,
          light.0,
          mul-le-mul_left left (net-short net),
          routes-short paths (i + 1) nets a.1 u.1 light.1,
          sum_by-cons (λ (n : ℕ × Net). n.0 * net_part design node n.1) (left, net) (zip (left_from (i + 1) paths nets) nets),
        )

    -- the ends of the paths of an axis are apart by this for each use at most
    pulls-short : (axis : Axis) (paths : List Path) → ArePathsOfAxis (place_on axis design.pads) design.pads design.nets paths → sum_by (pull (place_on axis design.pads)) paths ≤ 2 ^ 22 * by_number (λ j net. uses j paths * 1) 0 design.nets
    pulls-short axis paths h =
        let at = place_on axis design.pads in
        let each = recursion_from_All (IsPath at design.pads design.nets) paths h.each in
        omega (
          arith,
          pulls-small axis design.pads design.nets paths design.limits.places each,
          exchange (λ net. 1) design.nets (steps_of paths) (paths-nets at design.pads design.nets paths each),
        )

    -- by nets or by paths, the wires stay below 2^47
    pub full-short : full_part design node < 2 ^ 47
    full-short =
        let paths = design.routes.paths in
        let legal = design.routed.legal in
        let left : rest_part design node ≡ sum_by (λ n. n.0 * net_part design node n.1) (zip (left_from 0 paths design.nets) design.nets) =
        ap (λ l. sum_by (λ n. n.0 * net_part design node n.1) (zip l design.nets)) design.routed.left_is in
        omega (
          arith,
          wires-short,
          left,
          design.routed.wires_are,
          pulls-short Across paths.across legal.across,
          pulls-short Upward paths.upward legal.upward,
          routes-short paths 0 design.nets (axis-spare (place_on Across design.pads) design.pads design.nets paths.across legal.across) (axis-spare (place_on Upward design.pads) design.pads design.nets paths.upward legal.upward)
              (recursion_from_All (λ net. net.weight < 2 ^ 8) design.nets design.limits.net_weights),
          design.limits.few_nets,
        )
