-- What the wires take after all tokens.
use Rattle.std.proofs.Common.{◌≡◌, ℕ, ◌+◌, ◌-◌, ◌*◌, ◌<◌, ◌≤◌, max, List, [], ◌∷◌, length, take, get_or, refl, sym, ap, ◌∙◌, subst, arith, All, true, false, if◌then◌else◌}
use Rattle.sf_bounds.proofs.Common.{nat_lt, sum_by, take_all, get_or_default, recursion_from_All, sum_by_more, Design, Net, Pin, Range, Pair, Hull, Parts, root, is_complete, IsSubproblem, shapes_in, Item, read, items_of, item_in, extent_of, offsets, hull_of, hull_part, range_part, pair_part, net_part, weighed_part, wire_part, pins_by, wires_by, whole-item, sum_by-same, token_in, Direction, items_at, IsNext, BlockRow, Cell, NetFrame, Wires, Reach, anywhere, met, reach_gap, IsNet, counted, weighed_nets, weighed_lefts, lefts_of, weights_of, pins_at, whole_extent, row, part, pads_share, joined_reach, cell_at, IsFitCell, AreWires, AreStored, AreTop}
use Rattle.sf_frames.proofs.WholeSpans.{whole-spans}
use Rattle.sf_bounds.proofs.Lefts.{rest-more}
use Rattle.sf_bounds.proofs.NetPushed.{whole-small, item-few, top-items, row-is}
use Rattle.sf_bounds.proofs.NetRows.{cell-fits}
use Rattle.sf_bounds.proofs.NetStarted.{no-hull, no-hulls, near-pads, IsThere}
use Rattle.sf_bounds.proofs.RowLaws.{row-pads}
use Rattle.sf_bounds.proofs.Weights.{sum-of_weight, length-weights, weight-at, weighed-inside}

-- a net's part with the whole span of each block
net-whole : (design : Design) (node : Parts) (net : Net) → IsSubproblem design node → length node.steps ≡ length node.tokens → net_part design node net ≡ (if nat_lt (length net.pins) 2 then 0 else max (range_part design (whole_extent design) net.pins) (max (pair_part (whole_extent design) net.pins) (hull_part design (whole_extent design) (is_complete node) (items_of node) net.pins)))
net-whole design node net sub whole =
    ap (λ spans. (let e = λ (b : ℕ). extent_of (shapes_in design spans b) in
    if nat_lt (length net.pins) 2 then 0 else max (range_part design e net.pins) (max (pair_part e net.pins) (hull_part design e (is_complete node) (items_of node) net.pins)))) (whole-spans design node sub whole)

-- in an incomplete subproblem
open-part : (design : Design) (node : Parts) (net : Net) → IsSubproblem design node → length node.steps ≡ length node.tokens → is_complete node ≡ false → net_part design node net ≡ part design (whole_extent design) (items_of node) (counted net.pins)
open-part design node net sub whole incomplete =
    net-whole design node net sub whole
    ∙ ap (λ t. if nat_lt (length net.pins) 2 then 0 else max (range_part design (whole_extent design) net.pins) (max (pair_part (whole_extent design) net.pins) (hull_part design (whole_extent design) t (items_of node) net.pins))) incomplete
    ∙ (elim (nat_lt (length net.pins) 2) as (λ t. (if t then 0 else max (range_part design (whole_extent design) net.pins) (max (pair_part (whole_extent design) net.pins) (hull_part design (whole_extent design) false (items_of node) net.pins))) ≡ part design (whole_extent design) (items_of node) (if t then [] else net.pins)) [
      | true ↦ (let h = no-hulls design (whole_extent design) false (items_of node) in let z : 0 ≡ max 0 (max 0 (hull_part design (whole_extent design) false (items_of node) [])) = omega (arith, h) in z)
      | false ↦ refl
    ])

-- a net's gaps with the whole span of each block
hull-whole : (design : Design) (node : Parts) (pins : List Pin) → IsSubproblem design node → length node.steps ≡ length node.tokens → pins_by design node pins Hull ≡ (if nat_lt (length pins) 2 then 0 else hull_part design (whole_extent design) (is_complete node) (items_of node) pins)
hull-whole design node pins sub whole =
    ap (λ spans. (let e = λ (b : ℕ). extent_of (shapes_in design spans b) in
    if nat_lt (length pins) 2 then 0 else hull_part design e (is_complete node) (items_of node) pins)) (whole-spans design node sub whole)

-- its gaps in an incomplete subproblem
open-hull : (design : Design) (node : Parts) (pins : List Pin) → IsSubproblem design node → length node.steps ≡ length node.tokens → is_complete node ≡ false → pins_by design node pins Hull ≡ hull_part design (whole_extent design) false (items_of node) (counted pins)
open-hull design node pins sub whole incomplete =
    hull-whole design node pins sub whole
    ∙ ap (λ t. if nat_lt (length pins) 2 then 0 else hull_part design (whole_extent design) t (items_of node) pins) incomplete
    ∙ (elim (nat_lt (length pins) 2) as (λ t. (if t then 0 else hull_part design (whole_extent design) false (items_of node) pins) ≡ hull_part design (whole_extent design) false (items_of node) (if t then [] else pins)) [
      | true ↦ sym (no-hulls design (whole_extent design) false (items_of node))
      | false ↦ refl
    ])

-- its gap in a complete one is that of the one item with the pads
closed-hull : (design : Design) (node : Parts) (net : Net) (i : Item) → IsSubproblem design node → length node.steps ≡ length node.tokens → is_complete node ≡ true → items_of node ≡ i ∷ [] → length (offsets (whole_extent design) i) ≤ 320 → IsNet design net.pins →
    pins_by design node net.pins Hull ≡ reach_gap (met (row (whole_extent design) i (counted net.pins)) (pads_share design (counted net.pins)))
closed-hull design node net i sub whole complete one few inside =
    let e = whole_extent design in
    let near = near-pads design net.pins (recursion_from_All (IsThere design) net.pins inside) in
    hull-whole design node net.pins sub whole
    ∙ ap (λ t. if nat_lt (length net.pins) 2 then 0 else hull_part design e t (items_of node) net.pins) complete
    ∙ ap (λ v. if nat_lt (length net.pins) 2 then 0 else hull_part design e true v net.pins) one
    ∙ (elim (nat_lt (length net.pins) 2) as (λ t. (if t then 0 else max (hull_of design e true net.pins i) 0)
    ≡ reach_gap (met (row e i (if t then [] else net.pins)) (pads_share design (if t then [] else net.pins)))) [
      | true ↦ omega (arith, row-pads e (whole-small design) design i [] few tt tt, no-hull design e true i)
      | false ↦ omega (arith, row-pads e (whole-small design) design i net.pins few near.0 near.1)
    ])

-- the gaps after all tokens
pub open-hulls : (design : Design) (node : Parts) (cells : List Cell) (w : Wires) (n : ℕ) → IsSubproblem design node → length node.steps ≡ length node.tokens → n ≡ length node.tokens → is_complete node ≡ false → AreWires design cells (items_at node.tokens n) w → w.hull ≡ wires_by design node Hull
open-hulls design node cells w n sub whole all incomplete m =
    let items : items_at node.tokens n ≡ items_of node = ap (read []) (take_all n node.tokens (omega (arith, all))) in
    let now = λ (net : Net). hull_part design (whole_extent design) false (items_of node) (counted net.pins) in
    m.hull_total ∙ ap (λ v. sum_by (λ net. net.weight * hull_part design (whole_extent design) false v (counted net.pins)) (weighed_nets design)) items
    ∙ sum-of_weight now design.nets
    ∙ sym (sum_by-same (λ net. net.weight * pins_by design node net.pins Hull) (λ net. net.weight * now net) (λ net. ap (λ v. net.weight * v) (open-hull design node net.pins sub whole incomplete)) design.nets)

-- ranges and pairs are those of the root
pub same-ranges : (design : Design) (node : Parts) → IsSubproblem design node → length node.steps ≡ length node.tokens → wires_by design (root design) Range ≡ wires_by design node Range
same-ranges design node sub whole = sym (ap (λ spans. wires_by design (record { steps = node.steps; tokens = node.tokens; spans = spans }) Range) (whole-spans design node sub whole))

-- so are the pairs
pub same-pairs : (design : Design) (node : Parts) → IsSubproblem design node → length node.steps ≡ length node.tokens → wires_by design (root design) Pair ≡ wires_by design node Pair
same-pairs design node sub whole = sym (ap (λ spans. wires_by design (record { steps = node.steps; tokens = node.tokens; spans = spans }) Pair) (whole-spans design node sub whole))

-- the wires after all tokens
pub open-total : (design : Design) (node : Parts) (cells : List Cell) (w : Wires) (n : ℕ) → IsSubproblem design node → length node.steps ≡ length node.tokens → n ≡ length node.tokens → is_complete node ≡ false → AreWires design cells (items_at node.tokens n) w → w.sum ≡ wire_part design node
open-total design node cells w n sub whole all incomplete m =
    let items : items_at node.tokens n ≡ items_of node = ap (read []) (take_all n node.tokens (omega (arith, all))) in
    let now = λ (net : Net). part design (whole_extent design) (items_of node) (counted net.pins) in
    m.total ∙ ap (λ v. sum_by (λ net. net.weight * part design (whole_extent design) v (counted net.pins)) (weighed_nets design)) items
    ∙ sum-of_weight now design.nets
    ∙ sym (sum_by-same (weighed_part design node) (λ net. net.weight * now net) (λ net. ap (λ v. net.weight * v) (open-part design node net sub whole incomplete)) design.nets)

-- the part of a net in the row of the last frame is that of the subproblem
pub open-cell : (design : Design) (node : Parts) (cells : List Cell) (w : Wires) (n : ℕ) → IsSubproblem design node → length node.steps ≡ length node.tokens → n ≡ length node.tokens → is_complete node ≡ false → AreWires design cells (items_at node.tokens n) w
    → (j : ℕ) → j < length (weighed_nets design) → (cell_at cells (w.at + j)).part ≡ net_part design node (get_or (weighed_nets design) j (record { pins = []; weight = 0 }))
open-cell design node cells w n sub whole all incomplete m j lt =
    let items : items_at node.tokens n ≡ items_of node = ap (read []) (take_all n node.tokens (omega (arith, all))) in
    m.each j lt ∙ ap (λ v. part design (whole_extent design) v (pins_at design j)) items
    ∙ sym (open-part design node (get_or (weighed_nets design) j (record { pins = []; weight = 0 })) sub whole incomplete)

-- in a complete one with the pads
closed-part : (design : Design) (node : Parts) (net : Net) (i : Item) → IsSubproblem design node → length node.steps ≡ length node.tokens → is_complete node ≡ true → items_of node ≡ i ∷ [] → length (offsets (whole_extent design) i) ≤ 320 → IsNet design net.pins →
    net_part design node net ≡ max (part design (whole_extent design) [] (counted net.pins)) (reach_gap (met (row (whole_extent design) i (counted net.pins)) (pads_share design (counted net.pins))))
closed-part design node net i sub whole complete one few inside =
    let e = whole_extent design in
    let near = near-pads design net.pins (recursion_from_All (IsThere design) net.pins inside) in
    net-whole design node net sub whole
    ∙ ap (λ t. if nat_lt (length net.pins) 2 then 0 else max (range_part design e net.pins) (max (pair_part e net.pins) (hull_part design e t (items_of node) net.pins))) complete
    ∙ ap (λ v. if nat_lt (length net.pins) 2 then 0 else max (range_part design e net.pins) (max (pair_part e net.pins) (hull_part design e true v net.pins))) one
    ∙ (elim (nat_lt (length net.pins) 2) as (λ t. (if t then 0 else max (range_part design e net.pins) (max (pair_part e net.pins) (max (hull_of design e true net.pins i) 0)))
    ≡ max (part design e [] (if t then [] else net.pins)) (reach_gap (met (row e i (if t then [] else net.pins)) (pads_share design (if t then [] else net.pins))))) [
      | true ↦ omega (arith, row-pads e (whole-small design) design i [] few tt tt, no-hull design e true i)
      | false ↦ omega (arith, row-pads e (whole-small design) design i net.pins few near.0 near.1)
    ])

-- what is read within the list is the cell at that place
pub read-cell : (cells : List Cell) (i : ℕ) (x : Cell) → x ≡ get_or cells i x → i < length cells → x ≡ cell_at cells i
read-cell cells i x is lt = is ∙ get_or_default cells i x (record { reach = anywhere; part = 0; hull = 0 }) lt

-- such a cell fits, where all cells do
pub read-fits : (cells : List Cell) (i : ℕ) (x : Cell) → All IsFitCell cells → x ≡ get_or cells i x → i < length cells → IsFitCell x
read-fits cells i x fit is lt = subst IsFitCell (sym (read-cell cells i x is lt)) (cell-fits cells i fit lt)

-- a place in the list of weights is that of a net that counts
pub counts-there : (design : Design) (weights : List ℕ) (j : ℕ) → weights ≡ weights_of design.nets → j < length weights → j < length (weighed_nets design)
counts-there design weights j are lt = omega (arith, lt, ap length are, length-weights design.nets)

-- the last operator makes the one item of a complete subproblem
module _ (design : Design) (node : Parts) (cells : List Cell) (blocks : List BlockRow) (start : Wires) (frames : List NetFrame) (d : Direction) (l r : NetFrame) (sub : IsSubproblem design node) (m : AreStored design node.tokens cells blocks start frames) (next : IsNext node.tokens (length frames) (token_in d)) (t : AreTop design node.tokens cells start frames l r) (whole : length node.steps ≡ length node.tokens) (all : length frames ≡ length node.tokens - 1) (complete : is_complete node ≡ true) where
  -- the item that the last operator makes
  abbrev one : Item
  one = item_in d t.left.item t.right.item

  -- it is the only one
  alone : items_of node ≡ one ∷ []
  alone =
      let n : length frames + 1 ≡ length node.tokens = omega (arith, all, next.more) in
      let e : items_of node ≡ one ∷ items_at node.tokens l.below = sym (ap (read []) (take_all (length frames + 1) node.tokens (omega (arith, n)))) ∙ top-items design node cells blocks start frames d l r sub m next t in
      let none : length (items_at node.tokens l.below) ≡ 0 = omega (arith, ap length e, ap length (whole-item design node sub complete).1.items) in
      e ∙ ap (λ v. one ∷ v) (empty (items_at node.tokens l.below) none)
    where
      empty : (is : List Item) → length is ≡ 0 → is ≡ []
      empty [] h = refl
      empty (i ∷ is) h = absurd (omega (arith, h))

  -- the row of a net, its pads and the net
  abbrev shared_at : ℕ → Reach
  shared_at j = joined_reach d l.extent (cell_at cells (l.row + j)).reach (cell_at cells (r.row + j)).reach

  -- what its pads share
  abbrev pads_at : ℕ → Reach
  pads_at j = (cell_at cells (start.at + j)).reach

  -- the net of this number
  abbrev net_at : ℕ → Net
  net_at j = get_or (weighed_nets design) j (record { pins = []; weight = 0 })

  -- the item has at most 320 blocks
  few : length (offsets (whole_extent design) one) ≤ 320
  few = item-few design node (length frames + 1) one (items_at node.tokens l.below) sub (top-items design node cells blocks start frames d l r sub m next t)

  -- the gap read off the rows is that of the item and the pads
  gap-is : (j : ℕ) → j < length (weighed_nets design) → reach_gap (met (shared_at j) (pads_at j)) ≡ reach_gap (met (row (whole_extent design) one (pins_at design j)) (pads_share design (pins_at design j)))
  gap-is j lt =
      ap (λ v. reach_gap (met v (pads_at j))) (row-is design node cells blocks start frames d l r sub m next t j lt)
      ∙ ap (λ v. reach_gap (met (row (whole_extent design) one (pins_at design j)) v)) (m.start_is.pads j lt)

  -- its part, and its gap with the pads
  part-at : (j : ℕ) → j < length (weighed_nets design) → max (cell_at cells (start.at + j)).part (reach_gap (met (shared_at j) (pads_at j))) ≡ net_part design node (net_at j)
  part-at j lt =
      ap (λ v. max v (reach_gap (met (shared_at j) (pads_at j)))) (m.start_is.wires.each j lt)
      ∙ ap (max (part design (whole_extent design) [] (pins_at design j))) (gap-is j lt)
      ∙ sym (closed-part design node (net_at j) one sub whole complete alone few (weighed-inside design j (record { pins = []; weight = 0 }) lt))

  -- the gap is what the net takes by the hull
  hull-at : (j : ℕ) → j < length (weighed_nets design) → reach_gap (met (shared_at j) (pads_at j)) ≡ pins_by design node (net_at j).pins Hull
  hull-at j lt = gap-is j lt ∙ sym (closed-hull design node (net_at j) one sub whole complete alone few (weighed-inside design j (record { pins = []; weight = 0 }) lt))

  -- the sums with one net more, as the loop has them
  module _ (j total weight gap : ℕ) (lt : j < length (weighed_nets design)) (is_weight : weight ≡ get_or (weights_of design.nets) j 0) (is_gap : gap ≡ reach_gap (met (shared_at j) (pads_at j))) where
    -- the weight at a place is that of the net
    weight-is : weight ≡ (net_at j).weight
    weight-is = is_weight ∙ weight-at design.nets j (record { pins = []; weight = 0 }) lt

    -- of the greatest of range, pair and gap
    pub total-more : (value : ℕ) → value ≡ max (cell_at cells (start.at + j)).part gap → total ≡ sum_by (weighed_part design node) (take j (weighed_nets design)) → total + weight * value ≡ sum_by (weighed_part design node) (take (j + 1) (weighed_nets design))
    total-more value is_value is_total =
        let is : value ≡ net_part design node (net_at j) = is_value ∙ ap (max (cell_at cells (start.at + j)).part) is_gap ∙ part-at j lt in
        let more : weight * value ≡ weighed_part design node (net_at j) = ap (λ w. w * value) weight-is ∙ ap (λ v. (net_at j).weight * v) is in
        omega (arith, is_total, more, sum_by_more (weighed_part design node) (weighed_nets design) j (record { pins = []; weight = 0 }) lt)

    -- of the gaps alone
    pub hull-total-more : total ≡ sum_by (λ n. n.weight * pins_by design node n.pins Hull) (take j (weighed_nets design)) → total + weight * gap ≡ sum_by (λ n. n.weight * pins_by design node n.pins Hull) (take (j + 1) (weighed_nets design))
    hull-total-more is_total =
        let more : weight * gap ≡ (net_at j).weight * pins_by design node (net_at j).pins Hull = ap (λ w. w * gap) weight-is ∙ ap (λ v. (net_at j).weight * v) (is_gap ∙ hull-at j lt) in
        omega (arith, is_total, more, sum_by_more (λ (n : Net). n.weight * pins_by design node n.pins Hull) (weighed_nets design) j (record { pins = []; weight = 0 }) lt)

    -- of the greatest by what is left
    pub rest-total-more : (rest left value : ℕ) → left ≡ get_or (lefts_of design) j 0 → value ≡ max (cell_at cells (start.at + j)).part gap → rest ≡ sum_by (λ n. n.0 * net_part design node n.1) (take j (weighed_lefts design)) → rest + left * value ≡ sum_by (λ n. n.0 * net_part design node n.1) (take (j + 1) (weighed_lefts design))
    rest-total-more rest left value is_left is_value is_rest =
        rest-more design (net_part design node) j lt rest left value is_left (is_value ∙ ap (max (cell_at cells (start.at + j)).part) is_gap ∙ part-at j lt) is_rest
