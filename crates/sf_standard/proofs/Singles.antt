-- Where each span has one place, the value of a complete subproblem from area and wires is what its one plan costs.
use Rattle.std.proofs.Common.{◌≡◌, ℕ, suc, ◌+◌, ◌*◌, ◌-◌, ◌<◌, ◌≤◌, max, List, [], ◌∷◌, ◌++◌, length, length-take, map, arith, refl, ap, sym, subst, ◌∙◌, inl, inr, Bool, true, false, ◌||◌, if◌then◌else◌}
use Rattle.sf_standard.proofs.Common.{zero, Contains, sum_by, drop, nat_lt, slice_range, slice_index_or, ℤ, pos, not, AllByRecursion, list_any, list_all, mul-le-mul, mul-le-mul_left, ints, and_parts, ltb-false, ltb-true, cond_both, cond-true, recursion_from_All, Contains-append_left, Contains-append_right, sum-map, sum_by-cons, Design, Net, Pin, Shape, Spot, MAX, cost, Fits, block_count, shapes_of, IsPinSet, pin_number, pin_count, Tree, Leaf, Beside, Above, width, height, leaves, spots_at, spots_of, spot_of, pad_at, pin_x, pin_y, spread, net_wire, weighed_wire, wire, each-append, each-left, each-right, each-weaker, each-map, IsSubproblem, Parts, Belongs, is_complete, is_solved, is_wide, span_of, subproblem-spans, Contains-head, Extent, Offset, shapes_in, Item, items_of, unused, plans, fits, fitting, item_of, extent_of, point, range_part, pair_part, item_extent, offsets, moved_right, moved_up, offset_x, offset_y, contains_pin, of_pins, pads_x, pads_y, hull_of, hull_part, extent_in, area, least_of, least_cost, has_none, needed_area, area_part, net_part, weighed_part, wire_part, full_part, plans_of, open_value, standard, has_single_spans, cost-below}
use Rattle.sf_model.specs.declared.parts.Pin.TheVariants as pin
use Rattle.sf_standard.specs.Items as item
use Rattle.sf_standard.proofs.Cutting.{AreListed, cut, belongs-listed, least_of-le}
use Rattle.sf_standard.proofs.Exact.{IsWholeItem, whole-item, fitting-belongs, plans-are, least_of-reached}
use Rattle.sf_standard.proofs.Gaps.{IsOfExtent, of-extent, Pins, spread-le-gap}
use Rattle.sf_standard.proofs.Listed.{each-contains, each-from, Contains-map, Contains-from_filter, sum_by-le_each}
use Rattle.sf_standard.proofs.Members.{pin-found, offset-found, pads-found}
use Rattle.sf_standard.proofs.NetWires.{FitsExtents, of-item-extent, IsAt, extent-of}
use Rattle.sf_standard.proofs.Placed.{placed}
use Rattle.sf_standard.proofs.Soundness.{bounded-le}

-- the least sides are the greatest
record IsFixed (e : Extent) : Type 0 where
  wide : e.least_w ≡ e.most_w
  high : e.least_h ≡ e.most_h

-- the least place is the greatest
record IsFixedOffset (o : Offset) : Type 0 where
  across : o.least_x ≡ o.most_x
  upward : o.least_y ≡ o.most_y

-- a list of one shape at most has a fixed extent
fixed-by-one : (ss : List Shape) → length ss ≤ 1 → IsFixed (extent_of ss)
fixed-by-one [] h = record { wide = refl; high = refl }
fixed-by-one (s ∷ []) h = record { wide = refl; high = refl }
fixed-by-one (s ∷ t ∷ ss) h = absurd (omega (arith, h))

-- what is not true is false
not-true : (b : Bool) → not b ≡ true → b ≡ false
not-true true h = absurd (cc)
not-true false h = refl

-- a span that is not wide has one place at most
single-at : (spans : List (ℕ × ℕ)) (b : ℕ) → list_all (λ span. not (is_wide span)) spans ≡ true → (slice_index_or spans b (0, 0)).1 ≤ (slice_index_or spans b (0, 0)).0 + 1
single-at [] b all = omega arith
single-at (s ∷ spans) zero all = ltb-false (s.0 + 1) s.1 (not-true (nat_lt (s.0 + 1) s.1) (and_parts (not (nat_lt (s.0 + 1) s.1)) (list_all (λ span. not (is_wide span)) spans) all).0)
single-at (s ∷ spans) (suc b) all = single-at spans b (and_parts (not (is_wide s)) (list_all (λ span. not (is_wide span)) spans) all).1

-- where each span has one place, each block has a fixed extent
fixed-spans : (design : Design) (node : Parts) → has_single_spans node ≡ true → (b : ℕ) → IsFixed (extent_in design node b)
fixed-spans design node single b =
    let s = span_of node b in
    fixed-by-one (slice_range (shapes_of design b) s.0 s.1) (omega (arith, single-at node.spans b single, length-take (s.1 - s.0) (drop s.0 (shapes_of design b))))

module _ (extent : ℕ → Extent) (fixed : (b : ℕ) → IsFixed (extent b)) where
  -- then each item has fixed sides
  fixed-item : (i : Item) → IsFixed (item_extent extent i)
  fixed-item (item.Block b) = fixed b
  fixed-item (item.Beside l r) =
      let p = fixed-item l in
      let q = fixed-item r in
      record { wide = omega (arith, p.wide, q.wide); high = omega (arith, p.high, q.high) }
  fixed-item (item.Above l r) =
      let p = fixed-item l in
      let q = fixed-item r in
      record { wide = omega (arith, p.wide, q.wide); high = omega (arith, p.high, q.high) }

  -- and each block a fixed place in it
  fixed-offsets : (i : Item) → AllByRecursion IsFixedOffset (offsets extent i)
  fixed-offsets (item.Block b) = (record { across = refl; upward = refl }, tt)
  fixed-offsets (item.Beside l r) =
      let e = fixed-item l in
      each-append IsFixedOffset (offsets extent l) (map (moved_right (item_extent extent l)) (offsets extent r)) (fixed-offsets l)
      (each-map IsFixedOffset (moved_right (item_extent extent l)) (offsets extent r)
      (each-weaker IsFixedOffset (λ o. IsFixedOffset (moved_right (item_extent extent l) o)) (λ o k. record { across = omega (arith, k.across, e.wide); upward = k.upward }) (offsets extent r) (fixed-offsets r)))
  fixed-offsets (item.Above l r) =
      let e = fixed-item l in
      each-append IsFixedOffset (offsets extent l) (map (moved_up (item_extent extent l)) (offsets extent r)) (fixed-offsets l)
      (each-map IsFixedOffset (moved_up (item_extent extent l)) (offsets extent r)
      (each-weaker IsFixedOffset (λ o. IsFixedOffset (moved_up (item_extent extent l) o)) (λ o k. record { across = k.across; upward = omega (arith, k.upward, e.high) }) (offsets extent r) (fixed-offsets r)))

  -- a plan of the item has the item's sides
  fixed-size : (t : Tree) → FitsExtents extent t → (width t ≡ (item_extent extent (item_of t)).least_w) × (height t ≡ (item_extent extent (item_of t)).least_h)
  fixed-size t h =
      let e = of-item-extent extent t h in
      let k = fixed-item (item_of t) in
      (omega (arith, e.wide, e.narrow, k.wide), omega (arith, e.high, e.low, k.high))

-- each spot of a plan stands at an offset of its item
abbrev HasSeat : ℕ → ℕ → List Offset → Spot → Type 0
HasSeat x y os s = (o : Offset) × Contains os o × IsAt x y s o

-- each spot of the plan stands at an offset of its item
spots-at : (extent : ℕ → Extent) (x y : ℕ) (t : Tree) → FitsExtents extent t → AllByRecursion (HasSeat x y (offsets extent (item_of t))) (spots_at x y t)
spots-at extent x y (Leaf b s) h =
    ((record { block = b; least_x = 0; most_x = 0; least_y = 0; most_y = 0 }, Contains-head _ [], record { block = refl; left = omega (arith, ints); right = omega (arith, ints); below = omega (arith, ints); above = omega (arith, ints) }), tt)
spots-at extent x y (Beside l r) h =
    let e = item_extent extent (item_of l) in
    let i = of-item-extent extent l (each-left _ (leaves l) (leaves r) h) in
    let ls = offsets extent (item_of l) in
    let rs = offsets extent (item_of r) in
    each-append (HasSeat x y (ls ++ map (moved_right e) rs)) (spots_at x y l) (spots_at (x + width l) y r)
    (each-weaker (HasSeat x y ls) (HasSeat x y (ls ++ map (moved_right e) rs)) (λ s k. (k.0, Contains-append_left ls (map (moved_right e) rs) k.0 k.1, k.2)) (spots_at x y l) (spots-at extent x y l (each-left _ (leaves l) (leaves r) h)))
    (each-weaker (HasSeat (x + width l) y rs) (HasSeat x y (ls ++ map (moved_right e) rs))
    (λ s k. (moved_right e k.0, Contains-append_right ls (map (moved_right e) rs) (moved_right e k.0) (Contains-map (moved_right e) rs k.0 k.1), record { block = k.2.block; left = omega (arith, ints, k.2.left, i.wide); right = omega (arith, ints, k.2.right, i.narrow); below = k.2.below; above = k.2.above }))
    (spots_at (x + width l) y r) (spots-at extent (x + width l) y r (each-right _ (leaves l) (leaves r) h)))
spots-at extent x y (Above l r) h =
    let e = item_extent extent (item_of l) in
    let i = of-item-extent extent l (each-left _ (leaves l) (leaves r) h) in
    let ls = offsets extent (item_of l) in
    let rs = offsets extent (item_of r) in
    each-append (HasSeat x y (ls ++ map (moved_up e) rs)) (spots_at x y l) (spots_at x (y + height l) r)
    (each-weaker (HasSeat x y ls) (HasSeat x y (ls ++ map (moved_up e) rs)) (λ s k. (k.0, Contains-append_left ls (map (moved_up e) rs) k.0 k.1, k.2)) (spots_at x y l) (spots-at extent x y l (each-left _ (leaves l) (leaves r) h)))
    (each-weaker (HasSeat x (y + height l) rs) (HasSeat x y (ls ++ map (moved_up e) rs))
    (λ s k. (moved_up e k.0, Contains-append_right ls (map (moved_up e) rs) (moved_up e k.0) (Contains-map (moved_up e) rs k.0 k.1), record { block = k.2.block; left = k.2.left; right = k.2.right; below = omega (arith, ints, k.2.below, i.high); above = omega (arith, ints, k.2.above, i.low) }))
    (spots_at x (y + height l) r) (spots-at extent x (y + height l) r (each-right _ (leaves l) (leaves r) h)))

-- what bounds each from below bounds the least
least-above : (f : Tree → ℕ) (m : ℕ) (ts : List Tree) → m ≤ MAX → AllByRecursion (λ t. m ≤ f t) ts → m ≤ least_of f ts
least-above f m [] h e = h
least-above f m (t ∷ ts) h e = omega (arith, e.0, least-above f m ts h e.1)

-- with fewer than two pins there is no wire
few-wire : (f g : Pin → ℤ) (pins : List Pin) → length pins < 2 → spread (map f pins) + spread (map g pins) ≡ 0
few-wire f g [] h = omega arith
few-wire f g (p ∷ []) h = omega (arith, ints)
few-wire f g (p ∷ q ∷ pins) h = absurd (omega (arith, h))

-- the least area of the plans of the one item is part of the area that is needed
pub first-needed : (design : Design) (node : Parts) (i : Item) → items_of node ≡ i ∷ [] → least_of area (fitting design node i) ≤ needed_area (plans_of design node)
first-needed design node i one =
    let first : plans_of design node ≡ fitting design node i ∷ map (fitting design node) (unused node) = ap (λ is. map (fitting design node) (is ++ unused node)) one in
    omega (arith, sum-map (least_of area) (plans_of design node), ap (sum_by (least_of area)) first, sum_by-cons (least_of area) (fitting design node i) (map (fitting design node) (unused node)))

-- where the one item has no plan, the value from area and wires is the mark of no cost
pub no-plan : (design : Design) (node : Parts) (i : Item) → items_of node ≡ i ∷ [] → fitting design node i ≡ [] → open_value design node ≡ MAX
no-plan design node i one e =
    let none : list_any has_none (plans_of design node) ≡ true =
    ap (λ is. list_any has_none (map (fitting design node) (is ++ unused node))) one
    ∙ ap (λ ts. has_none ts || list_any has_none (map (fitting design node) (unused node))) e in
    cond-true (list_any has_none (plans_of design node)) MAX (if nat_lt (design.outline.w * design.outline.h) (area_part design (plans_of design node)) then MAX else (design.weights.area * area_part design (plans_of design node) + design.weights.wire * full_part design node)) none

module _ (design : Design) (node : Parts) (tree : Tree) (spans : length node.spans ≡ block_count design) (belongs : Belongs design node tree) (fit : Fits design.outline tree) (complete : is_complete node ≡ true) (single : has_single_spans node ≡ true) where
  -- the extents of the blocks in their spans
  abbrev own : ℕ → Extent
  own = extent_in design node

  -- they are fixed
  fixed : (b : ℕ) → IsFixed (extent_in design node b)
  fixed = fixed-spans design node single

  -- the one item is that of the plan
  the-item : items_of node ≡ item_of tree ∷ []
  the-item = let k = cut design node tree spans belongs in k.items ∙ ap (map item_of) (k.whole complete)

  -- a plan whose shapes are of the spans takes each from the extent of its block
  listed-extents : (t : Tree) → AreListed (shapes_in design node.spans) t → FitsExtents (extent_in design node) t
  listed-extents t listed = each-weaker (λ leaf. Contains (shapes_in design node.spans leaf.0) leaf.1) (λ leaf. IsOfExtent (extent_in design node leaf.0) leaf.1.w leaf.1.h)
      (λ leaf c. of-extent (shapes_in design node.spans leaf.0) leaf.1 c) (leaves t) listed

  -- so does the plan that belongs to the subproblem
  of-extents : FitsExtents (extent_in design node) tree
  of-extents = listed-extents tree (belongs-listed design node tree belongs)

  -- the seat of a block
  record IsSeatOf (b : ℕ) (o : Offset) : Type 0 where
    found : Contains (offsets (extent_in design node) (item_of tree)) o
    block : o.block ≡ b
    x : pos o.least_x ≡ (spot_of b (spots_of tree)).x
    most_x : pos o.most_x ≡ (spot_of b (spots_of tree)).x
    y : pos o.least_y ≡ (spot_of b (spots_of tree)).y
    most_y : pos o.most_y ≡ (spot_of b (spots_of tree)).y
    w : (spot_of b (spots_of tree)).w ≡ (extent_in design node o.block).least_w
    most_w : (spot_of b (spots_of tree)).w ≡ (extent_in design node o.block).most_w
    h : (spot_of b (spots_of tree)).h ≡ (extent_in design node o.block).least_h
    most_h : (spot_of b (spots_of tree)).h ≡ (extent_in design node o.block).most_h

  -- each block has a seat
  seated : (b : ℕ) → b < block_count design → (o : Offset) × IsSeatOf b o
  seated b lt =
      let s = spot_of b (spots_of tree) in
      let p = placed design tree belongs.legal b lt in
      let os = offsets (extent_in design node) (item_of tree) in
      let k = each-contains (HasSeat 0 0 os) (spots_of tree) s (spots-at (extent_in design node) 0 0 tree of-extents) p.found in
      let f = each-contains IsFixedOffset os k.0 (fixed-offsets (extent_in design node) fixed (item_of tree)) k.1 in
      let block : (k.0).block ≡ b = sym k.2.block ∙ p.block in
      let e = subst (λ n. IsOfExtent (extent_in design node n) s.w s.h) (sym block) (extent-of design node tree spans belongs fit b lt) in
      let g = fixed (k.0).block in (
        k.0,
        record {
          found = k.1;
          block = block;
          x = omega (arith, ints, k.2.left, k.2.right, f.across);
          most_x = omega (arith, ints, k.2.left, k.2.right, f.across);
          y = omega (arith, ints, k.2.below, k.2.above, f.upward);
          most_y = omega (arith, ints, k.2.below, k.2.above, f.upward);
          w = omega (arith, e.wide, e.narrow, g.wide);
          most_w = omega (arith, e.wide, e.narrow, g.wide);
          h = omega (arith, e.high, e.low, g.high);
          most_h = omega (arith, e.high, e.low, g.high);
        },
      )

  module _ (net : Net) (set : IsPinSet (block_count design) (length design.pads) net.pins) where
    -- a block among the pins is one of the design
    inside : (b : ℕ) → Contains net.pins (pin.Block b) → b < block_count design
    inside b c = each-contains (λ p. pin_number p < pin_count (block_count design) (length design.pads) p) net.pins (pin.Block b) (recursion_from_All (λ p. pin_number p < pin_count (block_count design) (length design.pads) p) net.pins set.in_range) c

    -- the offsets of the blocks of the net
    abbrev own_offsets : List Offset
    own_offsets = of_pins net.pins (offsets (extent_in design node) (item_of tree))

    -- the seat of a block of the net is one of them
    picked : (b : ℕ) (o : Offset) → Contains net.pins (pin.Block b) → IsSeatOf b o → Contains own_offsets o
    picked b o c k = offset-found net.pins (offsets (extent_in design node) (item_of tree)) o k.found (ap (λ v. contains_pin v net.pins) k.block ∙ pin-found b net.pins c)

    -- where a pin lies across is pinned by an interval of the hull
    pinned-x : (p : Pin) → Contains net.pins p → Pins (map (offset_x (extent_in design node)) own_offsets ++ pads_x design net.pins) (pin_x design (spots_of tree) p)
    pinned-x (pin.Block b) c =
        let k = seated b (inside b c) in
        let o = k.0 in
        record {
          at = offset_x (extent_in design node) o;
          found = Contains-append_left (map (offset_x (extent_in design node)) own_offsets) (pads_x design net.pins) (offset_x (extent_in design node) o) (Contains-map (offset_x (extent_in design node)) own_offsets o (picked b o c k.1));
          low = omega (arith, ints, k.1.x, k.1.w);
          high = omega (arith, ints, k.1.most_x, k.1.most_w);
        }
    pinned-x (pin.Pad q) c = record {
      at = point (pad_at design q).x;
      found = Contains-append_right (map (offset_x (extent_in design node)) own_offsets) (pads_x design net.pins) (point (pad_at design q).x) (pads-found (λ p. point (pad_at design p).x) (pads_x design) refl (λ b ps. refl) (λ p ps. refl) net.pins q c);
      low = omega (arith, ints);
      high = omega (arith, ints);
    }

    -- and upward
    pinned-y : (p : Pin) → Contains net.pins p → Pins (map (offset_y (extent_in design node)) own_offsets ++ pads_y design net.pins) (pin_y design (spots_of tree) p)
    pinned-y (pin.Block b) c =
        let k = seated b (inside b c) in
        let o = k.0 in
        record {
          at = offset_y (extent_in design node) o;
          found = Contains-append_left (map (offset_y (extent_in design node)) own_offsets) (pads_y design net.pins) (offset_y (extent_in design node) o) (Contains-map (offset_y (extent_in design node)) own_offsets o (picked b o c k.1));
          low = omega (arith, ints, k.1.y, k.1.h);
          high = omega (arith, ints, k.1.most_y, k.1.most_h);
        }
    pinned-y (pin.Pad q) c = record {
      at = point (pad_at design q).y;
      found = Contains-append_right (map (offset_y (extent_in design node)) own_offsets) (pads_y design net.pins) (point (pad_at design q).y) (pads-found (λ p. point (pad_at design p).y) (pads_y design) refl (λ b ps. refl) (λ p ps. refl) net.pins q c);
      low = omega (arith, ints);
      high = omega (arith, ints);
    }

    -- the wire of a net is no more than the hull part of the one item
    wire-le-hull : net_wire design (spots_of tree) net ≤ hull_of design (extent_in design node) true net.pins (item_of tree)
    wire-le-hull =
        let is = map (offset_x (extent_in design node)) own_offsets ++ pads_x design net.pins in
        let js = map (offset_y (extent_in design node)) own_offsets ++ pads_y design net.pins in
        omega (
          arith,
          spread-le-gap (map (pin_x design (spots_of tree)) net.pins) is (each-map (Pins is) (pin_x design (spots_of tree)) net.pins (each-from (λ p. Pins is (pin_x design (spots_of tree) p)) net.pins pinned-x)),
          spread-le-gap (map (pin_y design (spots_of tree)) net.pins) js (each-map (Pins js) (pin_y design (spots_of tree)) net.pins (each-from (λ p. Pins js (pin_y design (spots_of tree) p)) net.pins pinned-y)),
        )

    -- the hull part is the hull of the one item with the pads
    hull-whole : hull_part design (extent_in design node) (is_complete node) (items_of node) net.pins ≡ max (hull_of design (extent_in design node) true net.pins (item_of tree)) 0
    hull-whole =
        ap (λ t. hull_part design (extent_in design node) t (items_of node) net.pins) complete
        ∙ ap (λ is. hull_part design (extent_in design node) true is net.pins) the-item

    -- the wire of a net is no more than what it is taken to be at least
    wire-le : net_wire design (spots_of tree) net ≤ net_part design node net
    wire-le =
        cond_both (nat_lt (length net.pins) 2) 0 (max (range_part design (extent_in design node) net.pins) (max (pair_part (extent_in design node) net.pins) (hull_part design (extent_in design node) (is_complete node) (items_of node) net.pins)))
        (λ v. net_wire design (spots_of tree) net ≤ v)
        (λ few. omega (arith, few-wire (pin_x design (spots_of tree)) (pin_y design (spots_of tree)) net.pins (ltb-true (length net.pins) 2 few)))
        (λ _. omega (arith, wire-le-hull, hull-whole))

  -- the same as often as the weight of the net says
  weighed-le : (net : Net) → IsPinSet (block_count design) (length design.pads) net.pins → weighed_wire design (spots_of tree) net ≤ weighed_part design node net
  weighed-le net set = mul-le-mul_left net.weight (wire-le net set)

  -- the wire of the plan is no more than what the wires are taken to be at least
  wires-le : wire design (spots_of tree) ≤ wire_part design node
  wires-le = sum_by-le_each (weighed_wire design (spots_of tree)) (weighed_part design node) design.nets
      (each-weaker (λ net. IsPinSet (block_count design) (length design.pads) net.pins) (λ net. weighed_wire design (spots_of tree) net ≤ weighed_part design node net) weighed-le design.nets
      (recursion_from_All (λ net. IsPinSet (block_count design) (length design.pads) net.pins) design.nets design.limits.pins))

  -- each plan of the item has this area
  area-each : (t : Tree) → Contains (fitting design node (item_of tree)) t → area tree ≤ area t
  area-each t c =
      let k = Contains-from_filter (fits design.outline) (plans (shapes_in design node.spans) (item_of tree)) t c in
      let p = plans-are (shapes_in design node.spans) (item_of tree) t k.0 in
      let a = fixed-size (extent_in design node) fixed t (listed-extents t p.listed) in
      let b = fixed-size (extent_in design node) fixed tree of-extents in
      mul-le-mul (omega (arith, a.0, b.0, ap (λ i. (item_extent (extent_in design node) i).least_w) p.same)) (omega (arith, a.1, b.1, ap (λ i. (item_extent (extent_in design node) i).least_h) p.same))

  -- the plans of the one item and of no unused block
  abbrev groups : List (List Tree)
  groups = plans_of design node

  -- the area of the plan is no more than what is needed
  area-le : area tree ≤ area_part design groups
  area-le =
      let w : width tree ≤ 1048576 = omega (arith, fit.0, design.limits.width.1) in
      let h : height tree ≤ 1048576 = omega (arith, fit.1, design.limits.height.1) in
      let room : area tree ≤ 1048576 * 1048576 = mul-le-mul w h in
      let least : area tree ≤ least_of area (fitting design node (item_of tree)) = least-above area (area tree) (fitting design node (item_of tree)) (omega (arith, room)) (each-from (λ t. area tree ≤ area t) (fitting design node (item_of tree)) area-each) in
      omega (arith, least, first-needed design node (item_of tree) the-item)

  -- the plan costs no more than the value from area and wires
  cost-le : cost design tree ≤ open_value design node
  cost-le =
      let none = cost-below design tree fit in
      let most : wire design (spots_of tree) ≤ full_part design node = omega (arith, wires-le) in
      let total : cost design tree ≤ design.weights.area * area_part design groups + design.weights.wire * full_part design node =
      omega (arith, mul-le-mul_left design.weights.area area-le, mul-le-mul_left design.weights.wire most) in
      cond_both (list_any has_none groups) MAX (if nat_lt (design.outline.w * design.outline.h) (area_part design groups) then MAX else (design.weights.area * area_part design groups + design.weights.wire * full_part design node)) (λ v. cost design tree ≤ v)
      (λ _. omega (arith, none))
      (λ _. cond_both (nat_lt (design.outline.w * design.outline.h) (area_part design groups)) MAX (design.weights.area * area_part design groups + design.weights.wire * full_part design node) (λ v. cost design tree ≤ v)
      (λ _. omega (arith, none))
      (λ _. total))

  -- so it costs just this value
  pub costs-open : open_value design node ≡ cost design tree
  costs-open = omega (arith, cost-le, bounded-le design node tree spans belongs fit)

-- a complete subproblem whose spans have one place each has one plan, and its value from area and wires is what that plan costs
pub single_spans_are_open : (design : Design) (node : Parts) → IsSubproblem design node → is_complete node ≡ true → has_single_spans node ≡ true → standard design node ≡ open_value design node
single_spans_are_open design node sub complete single =
    cond_both (is_solved design node) (least_cost design node (items_of node)) (open_value design node) (λ v. v ≡ open_value design node)
    (λ _. ap (least_cost design node) whole.1.items ∙ by-plans (fitting design node whole.0) refl)
    (λ _. refl)
  where
    whole : (i : Item) × IsWholeItem node i
    whole = whole-item design node sub complete

    by-plans : (ts : List Tree) → fitting design node whole.0 ≡ ts → least_of (cost design) (fitting design node whole.0) ≡ open_value design node
    by-plans [] e = ap (least_of (cost design)) e ∙ sym (no-plan design node whole.0 whole.1.items e)
    by-plans (t ∷ ts) e =
        let here : Contains (fitting design node whole.0) t = subst (λ v. Contains v t) (sym e) (Contains-head t ts) in
        let b = fitting-belongs design node whole.0 t sub complete whole.1 here in
        elim (least_of-reached (cost design) (fitting design node whole.0)) [
          | inl none ↦ absurd (omega (arith, none, least_of-le (cost design) (fitting design node whole.0) t here, cost-below design t b.1))
          | inr k ↦ (let c = fitting-belongs design node whole.0 k.0 sub complete whole.1 k.1 in
              sym k.2 ∙ sym (costs-open design node k.0 (subproblem-spans design node sub) c.0 c.1 complete single))
        ]
