-- The rows of blocks, and what holds before any token.
use Rattle.std.proofs.Common.{◌≡◌, ℕ, ◌+◌, ◌-◌, ◌*◌, ◌<◌, ◌≤◌, max, List, [], ◌∷◌, ◌++◌, length, take, map, get_or, refl, sym, ap, ◌∙◌, subst, inl, inr, arith, length-append, All, Bool, true, false, if◌then◌else◌}
use Rattle.sf_bounds.proofs.Common.{fold, pos, nat_lt, cond, sum_by, AllByRecursion, ints, clamps, cases_lt, cond_both, get_or-append_right, get_or_append_left, get_or_push, get_or-map, length_push, length-map, take_all, take-append-le, All-append, All-from_recursion, recursion_from_All, sum_by-cons, Design, Net, Pin, block_count, pin_number, pin_count, root, Extent, Interval, Offset, Item, gap, hull_of, offsets, offset_x, offset_y, contains_pin, of_pins, range_part, pair_part, hull_part, pads_x, pads_y, net_part, weighed_part, wire_part, sum_by-same, BlockRow, Cell, Reach, IsFitInterval, IsFitReach, shared, met, endless, anywhere, IsNet, pad_reach, counted, of_weight, weighed_nets, pins_at, whole_extent, row, with_pad, pads_share, part, own_reach, cell_at, block_cell, start_cell, IsFitCell, IsRow, AreBlockRows, AreStored}
use Rattle.sf_model.specs.declared.parts.Pin.TheVariants as pin
use Rattle.sf_standard.specs.Items as item
use Rattle.sf_bounds.proofs.NetKept.{row-moves}
use Rattle.sf_bounds.proofs.NetPushed.{whole-small}
use Rattle.sf_nets.proofs.PinLoops.{near_pad, near_met, near_anywhere}
use Rattle.sf_bounds.proofs.RowLaws.{row-near, homes-x, homes-y}
use Rattle.sf_bounds.proofs.Weights.{one-counts, sum-of_weight}
use Rattle.sf_bounds.proofs.Shares.{interval}

-- what the own pins of a block share
own-is : (design : Design) (b : ℕ) (pins : List Pin) → own_reach pins b (whole_extent design b) ≡ row (whole_extent design) (item.Block b) pins
own-is design b pins =
    let ext = whole_extent design in
    let e = whole_extent design b in
    let o : Offset = record { block = b; least_x = 0; most_x = 0; least_y = 0; most_y = 0 } in
    let few : length (offsets ext (item.Block b)) ≤ 320 = omega arith in
    let x = (homes-x ext (whole-small design) (item.Block b) few).0 in
    let y = (homes-y ext (whole-small design) (item.Block b) few).0 in
    let ax : ◌≡◌ {A = Interval} (record { low = pos e.least_w; high = pos e.most_w }) (shared endless (offset_x ext o)) = interval _ _ _ _ (omega (arith, ints, clamps, x.low)) (omega (arith, ints, clamps, x.high_small)) in
    let ay : ◌≡◌ {A = Interval} (record { low = pos e.least_h; high = pos e.most_h }) (shared endless (offset_y ext o)) = interval _ _ _ _ (omega (arith, ints, clamps, y.low)) (omega (arith, ints, clamps, y.high_small)) in
    elim (contains_pin b pins) as (λ t. (if t then (let v : Reach = record { across = record { low = pos e.least_w; high = pos e.most_w }; upward = record { low = pos e.least_h; high = pos e.most_h } } in v) else anywhere)
    ≡ (let os = if t then (o ∷ []) else [] in let v : Reach = record { across = fold shared endless (map (offset_x ext) os); upward = fold shared endless (map (offset_y ext) os) } in v)) [
      | true ↦ ap (λ i. (let v : Reach = record { across = i; upward = record { low = pos e.least_h; high = pos e.most_h } } in v)) ax ∙ ap (λ i. (let v : Reach = record { across = shared endless (offset_x ext o); upward = i } in v)) ay
      | false ↦ refl
    ]

-- the cells of a block's row
block-cells : (design : Design) (cells : List Cell) (b : ℕ) → IsRow design (cells ++ map (block_cell b (whole_extent design b)) (weighed_nets design)) (item.Block b) (length cells)
block-cells design cells b =
    let made = map (block_cell b (whole_extent design b)) (weighed_nets design) in
    let n = length-map (weighed_nets design) (block_cell b (whole_extent design b)) in
    record {
      inside = omega (arith, length-append cells made, n);
      each = λ j lt.
          ap (λ c. c.reach) (get_or-append_right cells made (length cells) (length cells + j) (record { reach = anywhere; part = 0; hull = 0 }) refl (omega arith)
          ∙ (let e : length cells + j - length cells ≡ j = omega arith in ap (cell_at made) e)
          ∙ get_or-map (block_cell b (whole_extent design b)) (weighed_nets design) j (record { pins = []; weight = 0 }) (record { reach = anywhere; part = 0; hull = 0 }) lt)
          ∙ own-is design b (pins_at design j);
    }

-- the cells of a block's row fit
block-fit : (design : Design) (b : ℕ) → All IsFitCell (map (block_cell b (whole_extent design b)) (weighed_nets design))
block-fit design b = All-from_recursion IsFitCell (map (block_cell b (whole_extent design b)) (weighed_nets design)) (each (weighed_nets design))
  where
    each : (nets : List Net) → AllByRecursion IsFitCell (map (block_cell b (whole_extent design b)) nets)
    each [] = tt
    each (n ∷ nets) = (record { near = subst IsFitReach (sym (own-is design b (counted n.pins))) (row-near (whole_extent design) (whole-small design) (item.Block b) (counted n.pins) (omega arith)); small = omega arith; hull = omega arith }, each nets)

-- one block more
pub block-more : (design : Design) (b : ℕ) (cells all : List Cell) (blocks new : List BlockRow) (x : BlockRow) → AreBlockRows design b cells blocks → b < block_count design → x.extent ≡ whole_extent design b → x.row ≡ length cells → all ≡ cells ++ map (block_cell b x.extent) (weighed_nets design) → new ≡ blocks ++ x ∷ [] → AreBlockRows design (b + 1) all new
block-more design b cells all blocks new x m lt is_extent is_row is_all is_new =
    let made = map (block_cell b (whole_extent design b)) (weighed_nets design) in
    let whole = cells ++ made in
    let n = length_push blocks x in
    let same : all ≡ whole = is_all ∙ ap (λ e. cells ++ map (block_cell b e) (weighed_nets design)) is_extent in
    subst (λ v. AreBlockRows design (b + 1) v new) (sym same) (subst (AreBlockRows design (b + 1) whole) (sym is_new) record {
      count = omega (arith, n, m.count);
      extents = λ i d li. elim (cases_lt i b) [
        | inl before ↦ ap (λ v. v.extent) (get_or_append_left blocks (x ∷ []) d i (omega (arith, before, m.count))) ∙ m.extents i d before
        | inr here ↦ (let e : b ≡ i = omega (arith, li, here) in
            ap (λ v. v.extent) (get_or_push blocks x d i (omega (arith, m.count, e))) ∙ is_extent ∙ ap (whole_extent design) e)
      ];
      rows = λ i d li. elim (cases_lt i b) [
        | inl before ↦ (let r = m.rows i d before in
            subst (λ v. IsRow design whole (item.Block i) v.row) (sym (get_or_append_left blocks (x ∷ []) d i (omega (arith, before, m.count))))
            (row-moves design cells whole (item.Block i) (get_or blocks i d).row (length cells) r r.inside (omega (arith, length-append cells made)) (λ k lk. get_or_append_left cells made (record { reach = anywhere; part = 0; hull = 0 }) k lk)))
        | inr here ↦ (let e : b ≡ i = omega (arith, li, here) in
            subst (λ v. IsRow design whole (item.Block i) v.row) (sym (get_or_push blocks x d i (omega (arith, m.count, e))))
            (subst (λ (v : ℕ). IsRow design whole (item.Block v) x.row) e (subst (IsRow design whole (item.Block b)) (sym is_row) (block-cells design cells b))))
      ];
      fit = All-append IsFitCell cells made m.fit (block-fit design b);
    })

-- nothing comes from no pins
none-of-none : (os : List Offset) → of_pins [] os ≡ []
none-of-none [] = refl
none-of-none (o ∷ os) = none-of-none os

-- no pins have no gap in an item
pub no-hull : (design : Design) (extent : ℕ → Extent) (complete : Bool) (i : Item) → hull_of design extent complete [] i ≡ 0
no-hull design extent complete i =
    ap (λ os. gap (map (offset_x extent) os ++ cond complete [] []) + gap (map (offset_y extent) os ++ cond complete [] [])) (none-of-none (offsets extent i))
    ∙ (elim complete as (λ t. gap (cond t [] []) + gap (cond t [] []) ≡ 0) [ true ↦ refl | false ↦ refl ])

-- no pins have no gap in any items
pub no-hulls : (design : Design) (extent : ℕ → Extent) (complete : Bool) (items : List Item) → hull_part design extent complete items [] ≡ 0
no-hulls design extent complete [] = refl
no-hulls design extent complete (i ∷ items) = omega (arith, no-hull design extent complete i, no-hulls design extent complete items)

-- the part of a net before any token is its part at the root
pub start-part : (design : Design) (net : Net) → net_part design (root design) net ≡ part design (whole_extent design) [] (counted net.pins)
start-part design net =
    elim (nat_lt (length net.pins) 2) as (λ t. (if t then 0 else max (range_part design (whole_extent design) net.pins) (max (pair_part (whole_extent design) net.pins) 0)) ≡ part design (whole_extent design) [] (if t then [] else net.pins)) [
      | true ↦ refl
      | false ↦ refl
    ]

-- a sum of parts that are all 0 is 0
no-sum : (nets : List Net) → 0 ≡ sum_by (λ n. n.weight * 0) nets
no-sum [] = refl
no-sum (n ∷ nets) = omega (arith, sum_by-cons (λ n. n.weight * 0) n nets, no-sum nets)

-- all that holds before any token
pub started : (design : Design) (cells all : List Cell) (blocks : List BlockRow) (at sum : ℕ) → AreBlockRows design (block_count design) cells blocks → All IsFitCell all → at ≡ length cells → all ≡ cells ++ map (start_cell design) (weighed_nets design) → sum ≡ wire_part design (root design)
    → AreStored design [] all blocks (record { at = at; sum = sum; hull = 0 }) []
started design cells all blocks at sum m fit is_at is_all is_sum =
    let made = map (start_cell design) (weighed_nets design) in
    let n = length-map (weighed_nets design) (start_cell design) in
    let count = ap length is_all ∙ length-append cells made in
    let cell : (j : ℕ) → j < length (weighed_nets design) → cell_at all (at + j) ≡ start_cell design (get_or (weighed_nets design) j (record { pins = []; weight = 0 })) = λ j lt.
    ap (λ v. cell_at v (at + j)) is_all
    ∙ get_or-append_right cells made at (at + j) (record { reach = anywhere; part = 0; hull = 0 }) (sym is_at) (omega arith)
    ∙ (let e : at + j - at ≡ j = omega arith in ap (cell_at made) e)
    ∙ get_or-map (start_cell design) (weighed_nets design) j (record { pins = []; weight = 0 }) (record { reach = anywhere; part = 0; hull = 0 }) lt in
    let firsts : take at all ≡ cells = ap (take at) is_all ∙ take-append-le at cells made (omega (arith, is_at)) ∙ take_all at cells (omega (arith, is_at)) in
    record {
      fit = fit;
      start_is = record {
        rows = subst (λ v. AreBlockRows design (block_count design) v blocks) (sym firsts) m;
        pads = λ j lt. ap (λ c. c.reach) (cell j lt);
        wires = record {
          inside = omega (arith, is_at, count, n);
          each = λ j lt. ap (λ c. c.part) (cell j lt) ∙ start-part design (get_or (weighed_nets design) j (record { pins = []; weight = 0 }));
          hulls = λ j lt. ap (λ c. c.hull) (cell j lt);
          total = is_sum ∙ sym (sum-of_weight (net_part design (root design)) design.nets)
              ∙ sum_by-same (weighed_part design (root design)) (λ net. net.weight * part design (whole_extent design) [] (counted net.pins)) (λ net. ap (λ v. net.weight * v) (start-part design net)) (weighed_nets design);
          hull_total = no-sum (weighed_nets design);
        };
      };
      frames_are = record { few = omega arith; are = refl; each = λ k d lt. absurd (omega (arith, lt)); ends = λ i j d lt lj. absurd (omega (arith, lj)) };
    }

-- the pin's block or pad is there
abbrev pub IsThere : Design → Pin → Type 0
IsThere design p = pin_number p < pin_count (length design.blocks) (length design.pads) p

-- the places of the pads at a net's pins are near, across and upward
pub near-pads : (design : Design) (pins : List Pin) → AllByRecursion (IsThere design) pins → AllByRecursion IsFitInterval (pads_x design pins) × AllByRecursion IsFitInterval (pads_y design pins)
near-pads design [] h = (tt, tt)
near-pads design (pin.Block b ∷ pins) h = near-pads design pins h.1
near-pads design (pin.Pad q ∷ pins) h =
    let k = near-pads design pins h.1 in
    let n = near_pad design q h.0 in
    ((n.0, k.0), (n.1, k.1))

-- what is near stays so when it is narrowed by the pads at a net's pins
with-pads : (design : Design) (r : Reach) (pins : List Pin) → IsFitReach r → AllByRecursion (IsThere design) pins → IsFitReach (fold (with_pad design) r pins)
with-pads design r [] h k = h
with-pads design r (pin.Block b ∷ pins) h k = with-pads design r pins h k.1
with-pads design r (pin.Pad q ∷ pins) h k = with-pads design (met r (pad_reach design q)) pins (near_met r (pad_reach design q) h (near_pad design q k.0)) k.1

-- what the pads at a net's pins share is near
pub near-pads_share : (design : Design) (pins : List Pin) → IsNet design pins → IsFitReach (pads_share design pins)
near-pads_share design pins net = with-pads design anywhere pins near_anywhere (recursion_from_All (IsThere design) pins net)

-- the counted pins are there
pub counted-net : (design : Design) (pins : List Pin) → IsNet design pins → IsNet design (counted pins)
counted-net design pins net = cond_both (nat_lt (length pins) 2) [] pins (IsNet design) (λ _. λ i d lt. absurd (omega (arith, lt))) (λ _. net)

-- the cell of a net before any token fits
pub start-fits : (design : Design) (net : Net) (part : ℕ) (reach : Reach) → IsNet design net.pins → part ≤ 2800000000 → reach ≡ pads_share design (counted net.pins) → IsFitCell (record { reach = reach; part = part; hull = 0 })
start-fits design net part reach inside small is = record { near = subst IsFitReach (sym is) (near-pads_share design (counted net.pins) (counted-net design net.pins inside)); small = small; hull = omega arith }

-- the share of the pads and the part at the root make the cell of a net before any token
pub start-cell : (design : Design) (net : Net) (part : ℕ) (reach : Reach) → reach ≡ pads_share design (counted net.pins) → part ≡ net_part design (root design) net → (let c : Cell = record { reach = reach; part = part; hull = 0 } in c) ≡ start_cell design net
start-cell design net part reach is_reach is_part =
    ap (λ v. (let c : Cell = record { reach = v; part = part; hull = 0 } in c)) is_reach ∙ ap (λ n. (let c : Cell = record { reach = pads_share design (counted net.pins); part = n; hull = 0 } in c)) is_part

-- what one net brings
pub put-cell : (f : Net → Cell) (old new : List Cell) (net : Net) (c : Cell) → 0 < net.weight → c ≡ f net → new ≡ old ++ c ∷ [] → new ≡ old ++ map f (of_weight (net ∷ []))
put-cell f old new net c h is_c is_new = is_new ∙ ap (λ v. old ++ v ∷ []) is_c ∙ ap (λ v. old ++ map f v) (sym (one-counts net h))
