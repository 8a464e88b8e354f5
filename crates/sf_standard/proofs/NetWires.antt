-- The range, pair and hull parts are no more than a net's wire in any plan of the subproblem that fits.
use Rattle.std.proofs.Common.{◌≡◌, ℕ, ◌+◌, ◌*◌, ◌<◌, ◌≤◌, max, List, [], ◌∷◌, ◌++◌, map, length, arith, refl, ap, sym, subst, ◌∙◌, inl, inr, Bool, true, false, cond, ◌≤ℤ◌}
use Rattle.sf_standard.proofs.Common.{Contains, nat_lt, ℤ, pos, mul-le-mul_left, AllByRecursion, ints, cond_both, true≢false, recursion_from_All, Design, Net, Pin, Spot, Fits, block_count, IsPinSet, pin_order, pin_number, pin_count, Tree, Leaf, Beside, Above, width, height, leaves, spots_at, spots_of, spot_of, pin_x, pin_y, net_wire, weighed_wire, wire, each-append, each-weaker, each-map, each-left, each-right, EachPair, EachPair-map, Parts, Belongs, is_complete, Contains-head, Contains-tail, Contains-append_left, Contains-append_right, shapes_in, Item, items_of, item_of, Extent, Offset, range_x, range_y, range_part, block_pins, small_side, pair_part, item_extent, moved_right, moved_up, offsets, offset_x, offset_y, contains_pin, of_pins, pads_x, pads_y, hull_of, hull_part, extent_in, net_part, weighed_part, wire_part}
use Rattle.sf_model.specs.declared.parts.Pin.TheVariants as pin
use Rattle.sf_standard.proofs.Grown.{IsPart, part-self}
use Rattle.sf_standard.proofs.Listed.{each-contains, each-joined, each-from, Contains-map, sum_by-le_each, EachPair-from_pairs, EachPair-of}
use Rattle.sf_standard.proofs.Members.{pin-from}
use Rattle.sf_standard.proofs.Placed.{IsPlaced, placed, found-spot, spot-below, IsFirst, spots-first}
use Rattle.sf_standard.proofs.Cutting.{cut, belongs-listed}
use Rattle.sf_standard.proofs.Gaps.{Holds, gap-le-spread, apart-le-spread, greatest_two-le, IsOfExtent, of-extent}

-- the sides of the leaves are of their extents
abbrev pub FitsExtents : (ℕ → Extent) → Tree → Type 0
FitsExtents extent t = AllByRecursion (λ leaf. IsOfExtent (extent leaf.0) leaf.1.w leaf.1.h) (leaves t)

-- so is the size of a plan
pub of-item-extent : (extent : ℕ → Extent) (t : Tree) → FitsExtents extent t → IsOfExtent (item_extent extent (item_of t)) (width t) (height t)
of-item-extent extent (Leaf b s) h = h.0
of-item-extent extent (Beside l r) h =
    let i = of-item-extent extent l (each-left _ (leaves l) (leaves r) h) in
    let j = of-item-extent extent r (each-right _ (leaves l) (leaves r) h) in
    record { wide = omega (arith, i.wide, j.wide); narrow = omega (arith, i.narrow, j.narrow); high = omega (arith, i.high, j.high); low = omega (arith, i.low, j.low) }
of-item-extent extent (Above l r) h =
    let i = of-item-extent extent l (each-left _ (leaves l) (leaves r) h) in
    let j = of-item-extent extent r (each-right _ (leaves l) (leaves r) h) in
    record { wide = omega (arith, i.wide, j.wide); narrow = omega (arith, i.narrow, j.narrow); high = omega (arith, i.high, j.high); low = omega (arith, i.low, j.low) }

-- the spot stands at the offset from (x, y)
pub record IsAt (x y : ℕ) (s : Spot) (o : Offset) : Type 0 where
  pub block : s.block ≡ o.block
  pub left : pos (x + o.least_x) ≤ℤ s.x
  pub right : s.x ≤ℤ pos (x + o.most_x)
  pub below : pos (y + o.least_y) ≤ℤ s.y
  pub above : s.y ≤ℤ pos (y + o.most_y)

-- a spot of the plan stands at the offset
abbrev pub HasOffset : ℕ → ℕ → List Spot → Offset → Type 0
HasOffset x y ss o = (s : Spot) × Contains ss s × IsAt x y s o

-- each offset of an item is that of a spot of the plan
pub offsets-at : (extent : ℕ → Extent) (x y : ℕ) (t : Tree) → FitsExtents extent t → AllByRecursion (HasOffset x y (spots_at x y t)) (offsets extent (item_of t))
offsets-at extent x y (Leaf b s) h =
    ((record { block = b; x = pos x; y = pos y; w = s.w; h = s.h }, Contains-head _ [], record { block = refl; left = omega (arith, ints); right = omega (arith, ints); below = omega (arith, ints); above = omega (arith, ints) }), tt)
offsets-at extent x y (Beside l r) h =
    let i = of-item-extent extent l (each-left _ (leaves l) (leaves r) h) in
    let low = spots_at x y l in
    let high = spots_at (x + width l) y r in
    each-joined (HasOffset x y (low ++ high)) (HasOffset x y low) (HasOffset (x + width l) y high) (moved_right (item_extent extent (item_of l))) (offsets extent (item_of l)) (offsets extent (item_of r))
    (λ o k. (k.0, Contains-append_left low high k.0 k.1, k.2))
    (λ o k. (k.0, Contains-append_right low high k.0 k.1, record { block = k.2.block; left = omega (arith, ints, k.2.left, i.wide); right = omega (arith, ints, k.2.right, i.narrow); below = k.2.below; above = k.2.above }))
    (offsets-at extent x y l (each-left _ (leaves l) (leaves r) h)) (offsets-at extent (x + width l) y r (each-right _ (leaves l) (leaves r) h))
offsets-at extent x y (Above l r) h =
    let i = of-item-extent extent l (each-left _ (leaves l) (leaves r) h) in
    let low = spots_at x y l in
    let high = spots_at x (y + height l) r in
    each-joined (HasOffset x y (low ++ high)) (HasOffset x y low) (HasOffset x (y + height l) high) (moved_up (item_extent extent (item_of l))) (offsets extent (item_of l)) (offsets extent (item_of r))
    (λ o k. (k.0, Contains-append_left low high k.0 k.1, k.2))
    (λ o k. (k.0, Contains-append_right low high k.0 k.1, record { block = k.2.block; left = k.2.left; right = k.2.right; below = omega (arith, ints, k.2.below, i.high); above = omega (arith, ints, k.2.above, i.low) }))
    (offsets-at extent x y l (each-left _ (leaves l) (leaves r) h)) (offsets-at extent x (y + height l) r (each-right _ (leaves l) (leaves r) h))

-- the offsets that pins pick keep what holds of all, and their blocks are among the pins
pub each-of_pins : (P : Offset → Type 0) (pins : List Pin) (os : List Offset) → AllByRecursion P os → AllByRecursion (λ o. (contains_pin o.block pins ≡ true) × P o) (of_pins pins os)
each-of_pins P pins [] h = tt
each-of_pins P pins (o ∷ os) h =
    cond_both (contains_pin o.block pins) (o ∷ of_pins pins os) (of_pins pins os) (AllByRecursion (λ o. (contains_pin o.block pins ≡ true) × P o))
    (λ is. ((is, h.0), each-of_pins P pins os h.1)) (λ _. each-of_pins P pins os h.1)

-- what holds of each block among the pins holds of the list of these blocks
block_pins-each : (P : ℕ → Type 0) (pins : List Pin) → ((b : ℕ) → Contains pins (pin.Block b) → P b) → AllByRecursion P (block_pins pins)
block_pins-each P [] f = tt
block_pins-each P (pin.Block b ∷ pins) f = (f b (Contains-head (pin.Block b) pins), block_pins-each P pins (λ c k. f c (Contains-tail (pin.Block b) pins (pin.Block c) k)))
block_pins-each P (pin.Pad p ∷ pins) f = block_pins-each P pins (λ c k. f c (Contains-tail (pin.Pad p) pins (pin.Block c) k))

-- what holds of each two blocks among the pins, the lower number first, holds of each two of the list
block_pins-pairs : (R : ℕ → ℕ → Type 0) (pins : List Pin) → EachPair (λ p q. pin_order p < pin_order q) pins → ((a b : ℕ) → Contains pins (pin.Block a) → Contains pins (pin.Block b) → a < b → R a b) → EachPair R (block_pins pins)
block_pins-pairs R [] e f = tt
block_pins-pairs R (pin.Block b ∷ pins) e f = (
  block_pins-each (R b) pins (λ c k. f b c (Contains-head (pin.Block b) pins) (Contains-tail (pin.Block b) pins (pin.Block c) k) (each-contains (λ q. b < pin_order q) pins (pin.Block c) e.0 k)),
  block_pins-pairs R pins e.1 (λ a c i j. f a c (Contains-tail (pin.Block b) pins (pin.Block a) i) (Contains-tail (pin.Block b) pins (pin.Block c) j)),
)
block_pins-pairs R (pin.Pad p ∷ pins) e f =
    block_pins-pairs R pins e.1 (λ a c i j. f a c (Contains-tail (pin.Pad p) pins (pin.Block a) i) (Contains-tail (pin.Pad p) pins (pin.Block c) j))

module _ (design : Design) (node : Parts) (tree : Tree) (spans : length node.spans ≡ block_count design) (belongs : Belongs design node tree) (fit : Fits design.outline tree) where
  -- the spot of a block
  place : (b : ℕ) → b < block_count design → IsPlaced tree b (spot_of b (spots_of tree))
  place b h = placed design tree belongs.legal b h

  -- its sides are of the extent of the block
  pub extent-of : (b : ℕ) → b < block_count design → IsOfExtent (extent_in design node b) (spot_of b (spots_of tree)).w (spot_of b (spots_of tree)).h
  extent-of b h =
      let s = spot_of b (spots_of tree) in
      of-extent (shapes_in design node.spans b) (record { w = s.w; h = s.h })
      (each-contains (λ v. Contains (shapes_in design node.spans v.0) v.1) (leaves tree) (b, record { w = s.w; h = s.h }) (belongs-listed design node tree belongs) (place b h).leaf)

  -- the plan takes each shape from the extent of its block
  fits-extents : FitsExtents (extent_in design node) tree
  fits-extents = each-weaker (λ leaf. Contains (shapes_in design node.spans leaf.0) leaf.1) (λ leaf. IsOfExtent (extent_in design node leaf.0) leaf.1.w leaf.1.h)
      (λ leaf c. of-extent (shapes_in design node.spans leaf.0) leaf.1 c) (leaves tree) (belongs-listed design node tree belongs)

  module _ (net : Net) (set : IsPinSet (block_count design) (length design.pads) net.pins) where
    -- where the pins of the net lie across
    abbrev xs : List ℤ
    xs = map (pin_x design (spots_of tree)) net.pins

    -- and upward
    abbrev ys : List ℤ
    ys = map (pin_y design (spots_of tree)) net.pins

    -- a block among the pins is one of the design
    block-in : (b : ℕ) → Contains net.pins (pin.Block b) → b < block_count design
    block-in b c = each-contains (λ p. pin_number p < pin_count (block_count design) (length design.pads) p) net.pins (pin.Block b) (recursion_from_All (λ p. pin_number p < pin_count (block_count design) (length design.pads) p) net.pins set.in_range) c

    -- where a pin lies across is one of these numbers
    on-x : (p : Pin) → Contains net.pins p → Contains xs (pin_x design (spots_of tree) p)
    on-x p c = Contains-map (pin_x design (spots_of tree)) net.pins p c

    -- and upward
    on-y : (p : Pin) → Contains net.pins p → Contains ys (pin_y design (spots_of tree) p)
    on-y p c = Contains-map (pin_y design (spots_of tree)) net.pins p c

    -- a pin lies across in its range
    range-x : (p : Pin) → Contains net.pins p → Holds (pos 0) xs (range_x design (extent_in design node) p)
    range-x (pin.Block b) c =
        let i = (place b (block-in b c)).inside in
        let e = extent-of b (block-in b c) in
        record { at = pin_x design (spots_of tree) (pin.Block b); found = on-x (pin.Block b) c; low = omega (arith, ints, i.left, e.wide); high = omega (arith, ints, i.right, e.wide, fit.0) }
    range-x (pin.Pad p) c = record { at = pin_x design (spots_of tree) (pin.Pad p); found = on-x (pin.Pad p) c; low = omega (arith, ints); high = omega (arith, ints) }

    -- and upward
    range-y : (p : Pin) → Contains net.pins p → Holds (pos 0) ys (range_y design (extent_in design node) p)
    range-y (pin.Block b) c =
        let i = (place b (block-in b c)).inside in
        let e = extent-of b (block-in b c) in
        record { at = pin_y design (spots_of tree) (pin.Block b); found = on-y (pin.Block b) c; low = omega (arith, ints, i.below, e.high); high = omega (arith, ints, i.above, e.high, fit.1) }
    range-y (pin.Pad p) c = record { at = pin_y design (spots_of tree) (pin.Pad p); found = on-y (pin.Pad p) c; low = omega (arith, ints); high = omega (arith, ints) }

    -- the range part is no more than the wire of the net
    pub range-le : range_part design (extent_in design node) net.pins ≤ net_wire design (spots_of tree) net
    range-le =
        omega (
          arith,
          gap-le-spread (pos 0) xs (map (range_x design (extent_in design node)) net.pins) (each-map (Holds (pos 0) xs) (range_x design (extent_in design node)) net.pins (each-from (λ p. Holds (pos 0) xs (range_x design (extent_in design node) p)) net.pins range-x)),
          gap-le-spread (pos 0) ys (map (range_y design (extent_in design node)) net.pins) (each-map (Holds (pos 0) ys) (range_y design (extent_in design node)) net.pins (each-from (λ p. Holds (pos 0) ys (range_y design (extent_in design node) p)) net.pins range-y)),
        )

    -- two blocks of the net are their small sides apart
    pair-apart : (a b : ℕ) → Contains net.pins (pin.Block a) → Contains net.pins (pin.Block b) → a < b → small_side (extent_in design node a) + small_side (extent_in design node b) ≤ net_wire design (spots_of tree) net
    pair-apart a b ca cb lt =
        let i = place a (block-in a ca) in
        let j = place b (block-in b cb) in
        let d = extent-of a (block-in a ca) in
        let e = extent-of b (block-in b cb) in
        let across = apart-le-spread xs _ _ (on-x (pin.Block a) ca) (on-x (pin.Block b) cb) in
        let back = apart-le-spread xs _ _ (on-x (pin.Block b) cb) (on-x (pin.Block a) ca) in
        let upward = apart-le-spread ys _ _ (on-y (pin.Block a) ca) (on-y (pin.Block b) cb) in
        let downward = apart-le-spread ys _ _ (on-y (pin.Block b) cb) (on-y (pin.Block a) ca) in
        elim (EachPair-of IsFirst (spots_of tree) (spot_of a (spots_of tree)) (spot_of b (spots_of tree)) (spots-first 0 0 tree) i.found j.found (λ same. absurd (omega (arith, lt, i.block, j.block, ap (λ v. v.block) same)))) [
          | inl f ↦ elim f [ inl g ↦ omega (arith, ints, g, back, d.wide, e.wide) | inr g ↦ omega (arith, ints, g, downward, d.high, e.high) ]
          | inr f ↦ elim f [ inl g ↦ omega (arith, ints, g, across, d.wide, e.wide) | inr g ↦ omega (arith, ints, g, upward, d.high, e.high) ]
        ]

    -- the pair part is no more than the wire of the net
    pub pair-le : pair_part (extent_in design node) net.pins ≤ net_wire design (spots_of tree) net
    pair-le =
        greatest_two-le (net_wire design (spots_of tree) net) (map (λ b. small_side (extent_in design node b)) (block_pins net.pins))
        (EachPair-map (λ m n. m + n ≤ net_wire design (spots_of tree) net) (λ b. small_side (extent_in design node b)) (block_pins net.pins)
        (block_pins-pairs (λ a b. small_side (extent_in design node a) + small_side (extent_in design node b) ≤ net_wire design (spots_of tree) net) net.pins
        (EachPair-from_pairs (λ p q. pin_order p < pin_order q) net.pins set.ascending) pair-apart))

    -- a pad's point lies where it is
    pads-x : (d : ℤ) → d ≡ pos 0 → (pins : List Pin) → ((p : Pin) → Contains pins p → Contains net.pins p) → AllByRecursion (Holds d xs) (pads_x design pins)
    pads-x d e [] f = tt
    pads-x d e (pin.Block b ∷ pins) f = pads-x d e pins (λ p c. f p (Contains-tail (pin.Block b) pins p c))
    pads-x d e (pin.Pad q ∷ pins) f = (
      record { at = pin_x design (spots_of tree) (pin.Pad q); found = on-x (pin.Pad q) (f (pin.Pad q) (Contains-head (pin.Pad q) pins)); low = omega (arith, ints, e); high = omega (arith, ints, e) },
      pads-x d e pins (λ p c. f p (Contains-tail (pin.Pad q) pins p c)),
    )

    -- the same upward
    pads-y : (d : ℤ) → d ≡ pos 0 → (pins : List Pin) → ((p : Pin) → Contains pins p → Contains net.pins p) → AllByRecursion (Holds d ys) (pads_y design pins)
    pads-y d e [] f = tt
    pads-y d e (pin.Block b ∷ pins) f = pads-y d e pins (λ p c. f p (Contains-tail (pin.Block b) pins p c))
    pads-y d e (pin.Pad q ∷ pins) f = (
      record { at = pin_y design (spots_of tree) (pin.Pad q); found = on-y (pin.Pad q) (f (pin.Pad q) (Contains-head (pin.Pad q) pins)); low = omega (arith, ints, e); high = omega (arith, ints, e) },
      pads-y d e pins (λ p c. f p (Contains-tail (pin.Pad q) pins p c)),
    )

    -- the pads count where the item stands at the corner of the outline
    pads-if-x : (complete : Bool) (d : ℤ) → (complete ≡ true → d ≡ pos 0) → AllByRecursion (Holds d xs) (cond complete (pads_x design net.pins) [])
    pads-if-x true d e = pads-x d (e refl) net.pins (λ p c. c)
    pads-if-x false d e = tt

    -- the same upward
    pads-if-y : (complete : Bool) (d : ℤ) → (complete ≡ true → d ≡ pos 0) → AllByRecursion (Holds d ys) (cond complete (pads_y design net.pins) [])
    pads-if-y true d e = pads-y d (e refl) net.pins (λ p c. c)
    pads-if-y false d e = tt

    module _ (part : Tree) (is : IsPart part tree) where
      -- the spot of a block in the part is its spot in the whole floorplan
      spot-at : (o : Offset) → (k : HasOffset (0 + is.x) (0 + is.y) (spots_at (0 + is.x) (0 + is.y) part) o) → spot_of o.block (spots_of tree) ≡ k.0
      spot-at o k =
          let found : Contains (spots_of tree) k.0 = is.placed 0 0 k.0 k.1 in
          subst (λ b. spot_of b (spots_of tree) ≡ k.0) k.2.block (found-spot design tree belongs.legal k.0 found (spot-below design tree belongs.legal k.0 found))

      -- a block of the net at its offset
      offset-x : (o : Offset) → (contains_pin o.block net.pins ≡ true) × HasOffset (0 + is.x) (0 + is.y) (spots_at (0 + is.x) (0 + is.y) part) o → Holds (pos (2 * is.x)) xs (offset_x (extent_in design node) o)
      offset-x o k =
          let c = pin-from o.block net.pins k.0 in
          let e = extent-of o.block (block-in o.block c) in
          let across : (spot_of o.block (spots_of tree)).x ≡ k.1.0.x = ap (λ v. v.x) (spot-at o k.1) in
          record { at = pin_x design (spots_of tree) (pin.Block o.block); found = on-x (pin.Block o.block) c; low = omega (arith, ints, across, k.1.2.left, e.wide); high = omega (arith, ints, across, k.1.2.right, e.narrow) }

      -- the same upward
      offset-y : (o : Offset) → (contains_pin o.block net.pins ≡ true) × HasOffset (0 + is.x) (0 + is.y) (spots_at (0 + is.x) (0 + is.y) part) o → Holds (pos (2 * is.y)) ys (offset_y (extent_in design node) o)
      offset-y o k =
          let c = pin-from o.block net.pins k.0 in
          let e = extent-of o.block (block-in o.block c) in
          let upward : (spot_of o.block (spots_of tree)).y ≡ k.1.0.y = ap (λ v. v.y) (spot-at o k.1) in
          record { at = pin_y design (spots_of tree) (pin.Block o.block); found = on-y (pin.Block o.block) c; low = omega (arith, ints, upward, k.1.2.below, e.high); high = omega (arith, ints, upward, k.1.2.above, e.low) }

      -- the hull of one item is no more than the wire of the net
      pub hull-le : (complete : Bool) → (complete ≡ true → (is.x ≡ 0) × (is.y ≡ 0)) → hull_of design (extent_in design node) complete net.pins (item_of part) ≤ net_wire design (spots_of tree) net
      hull-le complete corner =
          let extent = extent_in design node in
          let os = of_pins net.pins (offsets extent (item_of part)) in
          let leaves-fit : FitsExtents extent part = each-from (λ leaf. IsOfExtent (extent leaf.0) leaf.1.w leaf.1.h) (leaves part) (λ leaf c. each-contains (λ v. IsOfExtent (extent v.0) v.1.w v.1.h) (leaves tree) leaf fits-extents (is.listed leaf c)) in
          let here = each-of_pins (HasOffset (0 + is.x) (0 + is.y) (spots_at (0 + is.x) (0 + is.y) part)) net.pins (offsets extent (item_of part)) (offsets-at extent (0 + is.x) (0 + is.y) part leaves-fit) in
          let across = each-append (Holds (pos (2 * is.x)) xs) (map (offset_x extent) os) (cond complete (pads_x design net.pins) [])
          (each-map (Holds (pos (2 * is.x)) xs) (offset_x extent) os (each-weaker _ (λ o. Holds (pos (2 * is.x)) xs (offset_x extent o)) offset-x os here))
          (pads-if-x complete (pos (2 * is.x)) (λ e. ap (λ n. pos (2 * n)) (corner e).0)) in
          let upward = each-append (Holds (pos (2 * is.y)) ys) (map (offset_y extent) os) (cond complete (pads_y design net.pins) [])
          (each-map (Holds (pos (2 * is.y)) ys) (offset_y extent) os (each-weaker _ (λ o. Holds (pos (2 * is.y)) ys (offset_y extent o)) offset-y os here))
          (pads-if-y complete (pos (2 * is.y)) (λ e. ap (λ n. pos (2 * n)) (corner e).1)) in
          omega (arith, gap-le-spread (pos (2 * is.x)) xs (map (offset_x extent) os ++ cond complete (pads_x design net.pins) []) across, gap-le-spread (pos (2 * is.y)) ys (map (offset_y extent) os ++ cond complete (pads_y design net.pins) []) upward)

    -- nor is the greatest hull of some items
    hull-all : (complete : Bool) (items : List Item) → AllByRecursion (λ i. hull_of design (extent_in design node) complete net.pins i ≤ net_wire design (spots_of tree) net) items → hull_part design (extent_in design node) complete items net.pins ≤ net_wire design (spots_of tree) net
    hull-all complete [] h = omega arith
    hull-all complete (i ∷ items) h = omega (arith, h.0, hull-all complete items h.1)

    -- nor is that of the items of the subproblem, complete or not
    hull-by : (complete : Bool) → is_complete node ≡ complete → hull_part design (extent_in design node) complete (items_of node) net.pins ≤ net_wire design (spots_of tree) net
    hull-by true e =
        let k = cut design node tree spans belongs in
        subst (λ v. hull_part design (extent_in design node) true v net.pins ≤ net_wire design (spots_of tree) net) (sym (k.items ∙ ap (map item_of) (k.whole e)))
        (hull-all true (item_of tree ∷ []) (hull-le tree (part-self tree) true (λ _. (refl, refl)), tt))
    hull-by false e =
        let k = cut design node tree spans belongs in
        subst (λ v. hull_part design (extent_in design node) false v net.pins ≤ net_wire design (spots_of tree) net) (sym k.items)
        (hull-all false (map item_of k.stack) (each-map (λ i. hull_of design (extent_in design node) false net.pins i ≤ net_wire design (spots_of tree) net) item_of k.stack
        (each-weaker (λ p. IsPart p tree) (λ p. hull_of design (extent_in design node) false net.pins (item_of p) ≤ net_wire design (spots_of tree) net) (λ p part. hull-le p part false (λ wrong. absurd (true≢false (sym wrong)))) k.stack k.parts)))

    -- no part of the wire of a net is more than its wire in the plan
    pub net_part-le : net_part design node net ≤ net_wire design (spots_of tree) net
    net_part-le =
        cond_both (nat_lt (length net.pins) 2) 0 (max (range_part design (extent_in design node) net.pins) (max (pair_part (extent_in design node) net.pins) (hull_part design (extent_in design node) (is_complete node) (items_of node) net.pins)))
        (λ v. v ≤ net_wire design (spots_of tree) net) (λ _. omega arith) (λ _. omega (arith, range-le, pair-le, hull-by (is_complete node) refl))

  -- the same as often as the weight of the net says
  weighed-le : (net : Net) → IsPinSet (block_count design) (length design.pads) net.pins → weighed_part design node net ≤ weighed_wire design (spots_of tree) net
  weighed-le net set = mul-le-mul_left net.weight (net_part-le net set)

  -- what the wires are taken to be at least is no more than the wire of the plan
  pub nets-le : wire_part design node ≤ wire design (spots_of tree)
  nets-le = sum_by-le_each (weighed_part design node) (weighed_wire design (spots_of tree)) design.nets
      (each-weaker (λ net. IsPinSet (block_count design) (length design.pads) net.pins) (λ net. weighed_part design node net ≤ weighed_wire design (spots_of tree) net) weighed-le design.nets
      (recursion_from_All (λ net. IsPinSet (block_count design) (length design.pads) net.pins) design.nets design.limits.pins))
