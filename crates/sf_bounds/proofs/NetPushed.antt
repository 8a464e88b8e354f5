-- The frame of one token more.
use Rattle.std.proofs.Common.{◌≡◌, ℕ, suc, ◌+◌, ◌-◌, ◌*◌, ◌<◌, ◌≤◌, max, List, [], ◌∷◌, ◌++◌, length, take, map, get_or, refl, sym, ap, ◌∙◌, subst, arith, length-append, All, false}
use Rattle.sf_bounds.proofs.Common.{sum_by, range_with_len, get_or-append_right, get_or-take, length-take-le, length-map-range_with_len, get_or-map-range_with_len, sum_by-cons, Design, Net, Pin, Token, numbers, Parts, root, IsSubproblem, Extent, Item, read, item_in, item_extent, offsets, hull_part, lone-hull, sum_by-same, token_in, Direction, items_at, IsNext, items-block, items-joined, block-inside, LiesOn, AreThere, pair-there, pair-are, BlockRow, Cell, NetFrame, Wires, IsFitReach, anywhere, reach_gap, joined_extent, IsModestExtent, counted, weighed_nets, weights_of, pins_at, whole_extent, row, part, pushed_reach, joined_reach, cell_at, joined_cell, weighed_cell, weighed_hull, AreSums, IsFitCell, IsRow, AreWires, first_end, IsStart, IsNetFrame, AreStored, AreTop, IsSmallExtent, span-small, Beside, Above, joined-length, item-small}
use Rattle.sf_polish.specs.declared.expr.Token.TheVariants as token
use Rattle.sf_standard.specs.Items as item
use Rattle.sf_nets.proofs.LaidTokens.{few-numbers}
use Rattle.sf_bounds.proofs.NetKept.{stored-appended, frame-pushed}
use Rattle.sf_bounds.proofs.RowLaws.{row-hull, row-joined, pushed-near}
use Rattle.sf_bounds.proofs.Weights.{weight-at}

-- the extent of a block in its whole span has no side beyond the limit
pub whole-small : (design : Design) (b : ℕ) → IsSmallExtent 1048576 (whole_extent design b)
whole-small design b = span-small design (root design) b

-- how many blocks stand in the items
abbrev blocks_in : (ℕ → Extent) → List Item → ℕ
blocks_in extent [] = 0
blocks_in extent (i ∷ is) = length (offsets extent i) + blocks_in extent is

module _ (extent : ℕ → Extent) where
  -- the items that tokens leave have no more blocks than the items before, and the tokens, have
  read-few : (items : List Item) (xs : List Token) → blocks_in extent (read items xs) ≤ blocks_in extent items + length (numbers xs)
  read-few items [] = omega arith
  read-few [] (token.Block b ∷ xs) = omega (arith, read-few (item.Block b ∷ []) xs)
  read-few (i ∷ items) (token.Block b ∷ xs) = omega (arith, read-few (item.Block b ∷ i ∷ items) xs)
  read-few [] (token.Beside ∷ xs) = read-few [] xs
  read-few (i ∷ []) (token.Beside ∷ xs) = read-few (i ∷ []) xs
  read-few (r ∷ l ∷ items) (token.Beside ∷ xs) = omega (arith, read-few (item.Beside l r ∷ items) xs, joined-length extent Beside l r)
  read-few [] (token.Above ∷ xs) = read-few [] xs
  read-few (i ∷ []) (token.Above ∷ xs) = read-few (i ∷ []) xs
  read-few (r ∷ l ∷ items) (token.Above ∷ xs) = omega (arith, read-few (item.Above l r ∷ items) xs, joined-length extent Above l r)

-- no item of a subproblem has more blocks than a design
pub item-few : (design : Design) (node : Parts) (k : ℕ) (i : Item) (rest : List Item) → IsSubproblem design node → items_at node.tokens k ≡ i ∷ rest → length (offsets (whole_extent design) i) ≤ 320
item-few design node k i rest sub e =
    omega (arith, ap (blocks_in (whole_extent design)) e, read-few (whole_extent design) [] (take k node.tokens), few-numbers design node k sub)

-- no gap comes with a block
pub part-block : (design : Design) (b : ℕ) (items : List Item) (pins : List Pin) → part design (whole_extent design) (item.Block b ∷ items) pins ≡ part design (whole_extent design) items pins
part-block design b items pins = omega (arith, lone-hull design (root design) b pins)

-- with one item more the part of a net is the greater of that before and the gap of the item
pub part-more : (design : Design) (i : Item) (items : List Item) (pins : List Pin) → length (offsets (whole_extent design) i) ≤ 320 → part design (whole_extent design) (i ∷ items) pins ≡ max (part design (whole_extent design) items pins) (reach_gap (row (whole_extent design) i pins))
part-more design i items pins few = omega (arith, row-hull (whole_extent design) (whole-small design) design i pins few)

-- the same of the gaps alone
pub hull-block : (design : Design) (b : ℕ) (items : List Item) (pins : List Pin) → hull_part design (whole_extent design) false (item.Block b ∷ items) pins ≡ hull_part design (whole_extent design) false items pins
hull-block design b items pins = omega (arith, lone-hull design (root design) b pins)

-- with one item more the greatest gap of a net is the greater of that before and the gap of the item
pub hull-more : (design : Design) (i : Item) (items : List Item) (pins : List Pin) → length (offsets (whole_extent design) i) ≤ 320 → hull_part design (whole_extent design) false (i ∷ items) pins ≡ max (hull_part design (whole_extent design) false items pins) (reach_gap (row (whole_extent design) i pins))
hull-more design i items pins few = omega (arith, row-hull (whole_extent design) (whole-small design) design i pins few)

-- sums of what is told cell by cell
sums-agree : (f : ℕ → ℕ) (g : Net → ℕ) (nets : List Net) (a : ℕ) → ((j : ℕ) → j < length nets → f (a + j) ≡ g (get_or nets j (record { pins = []; weight = 0 }))) → sum_by f (range_with_len a (length nets)) ≡ sum_by g nets
sums-agree f g [] a h = refl
sums-agree f g (n ∷ nets) a h =
    let zero_a : a + 0 ≡ a = omega arith in
    let here : f a ≡ g n = ap f (sym zero_a) ∙ h 0 (omega arith) in
    let later : sum_by f (range_with_len (a + 1) (length nets)) ≡ sum_by g nets =
    sums-agree f g nets (a + 1) (λ j lt. (let e : a + 1 + j ≡ a + suc j = omega arith in ap f e ∙ h (suc j) (omega arith))) in
    omega (arith, here, later, sum_by-cons f a (range_with_len (a + 1) (length nets)), sum_by-cons g n nets)

-- the wires after a token that adds no gap
wires-same : (design : Design) (cells : List Cell) (items others : List Item) (w : Wires) → ((pins : List Pin) → part design (whole_extent design) others pins ≡ part design (whole_extent design) items pins) → ((pins : List Pin) → hull_part design (whole_extent design) false others pins ≡ hull_part design (whole_extent design) false items pins) → AreWires design cells items w → AreWires design cells others w
wires-same design cells items others w same same_hull m = record {
  inside = m.inside;
  each = λ j lt. m.each j lt ∙ sym (same (pins_at design j));
  hulls = λ j lt. m.hulls j lt ∙ sym (same_hull (pins_at design j));
  total = m.total ∙ sym (sum_by-same (λ net. net.weight * part design (whole_extent design) others (counted net.pins)) (λ net. net.weight * part design (whole_extent design) items (counted net.pins)) (λ net. ap (λ v. net.weight * v) (same (counted net.pins))) (weighed_nets design));
  hull_total = m.hull_total ∙ sym (sum_by-same (λ net. net.weight * hull_part design (whole_extent design) false others (counted net.pins)) (λ net. net.weight * hull_part design (whole_extent design) false items (counted net.pins)) (λ net. ap (λ v. net.weight * v) (same_hull (counted net.pins))) (weighed_nets design));
}

-- the row of a block is there
block-row : (design : Design) (cells : List Cell) (blocks : List BlockRow) (start : Wires) (b : ℕ) (d : BlockRow) → IsStart design cells blocks start → b < length design.blocks → IsRow design cells (item.Block b) (get_or blocks b d).row
block-row design cells blocks start b d m lt =
    let r = m.rows.rows b d lt in
    let n = length-take-le start.at cells (omega (arith, m.wires.inside)) in
    record {
      inside = omega (arith, r.inside, n, m.wires.inside);
      each = λ j lj. ap (λ c. c.reach) (sym (get_or-take start.at cells ((get_or blocks b d).row + j) (record { reach = anywhere; part = 0; hull = 0 }) (omega (arith, lj, r.inside, n)))) ∙ r.each j lj;
    }

-- the frame of a block: its extent and its row, and the wires after it
abbrev pub block_frame : ℕ → ℕ → BlockRow → Wires → ℕ → NetFrame
block_frame b below x w end = record { token = token.Block b; extent = x.extent; below = below; row = x.row; wires = w; end = end }

-- the frame of a block
pub block-pushed : (design : Design) (node : Parts) (cells : List Cell) (blocks : List BlockRow) (start : Wires) (frames new : List NetFrame) (b : ℕ) (x d : BlockRow) (w : Wires) (below end : ℕ) → IsSubproblem design node → AreStored design node.tokens cells blocks start frames → IsNext node.tokens (length frames) (token.Block b)
    → x ≡ get_or blocks b d → AreWires design cells (items_at node.tokens (length frames)) w → below ≡ length frames → end ≡ length cells → new ≡ frames ++ block_frame b below x w end ∷ [] → AreStored design node.tokens cells blocks start new
block-pushed design node cells blocks start frames new b x d w below end sub m next is_x wires is_below is_end is_new =
    let lt = block-inside design node (length frames) b sub next in
    let f = block_frame b below x w end in
    let row : IsRow design cells (item.Block b) x.row = subst (λ v. IsRow design cells (item.Block b) v.row) (sym is_x) (block-row design cells blocks start b d m.start_is lt) in
    let is : IsNetFrame design node.tokens cells (first_end design start) (length frames + 1) f = record {
      item = item.Block b;
      top = items-block node.tokens (length frames) b next ∙ ap (λ (v : ℕ). item.Block b ∷ items_at node.tokens v) (sym is_below);
      fewer = omega (arith, is_below);
      extent = ap (λ v. v.extent) is_x ∙ m.start_is.rows.extents b d lt;
      row = row;
      wires = wires-same design cells (items_at node.tokens (length frames)) (items_at node.tokens (length frames + 1)) w
          (λ pins. ap (λ v. part design (whole_extent design) v pins) (items-block node.tokens (length frames) b next) ∙ part-block design b (items_at node.tokens (length frames)) pins)
          (λ pins. ap (λ v. hull_part design (whole_extent design) false v pins) (items-block node.tokens (length frames) b next) ∙ hull-block design b (items_at node.tokens (length frames)) pins) wires;
      row_end = omega (arith, row.inside, is_end);
      wires_end = omega (arith, wires.inside, is_end);
      after = omega (arith, m.start_is.wires.inside, is_end);
      end = omega (arith, is_end);
    } in
    subst (AreStored design node.tokens cells blocks start) (sym is_new) (frame-pushed design node.tokens cells blocks start frames f m next is is_end)

-- a frame says on how many tokens its item lies
frame-lies : (design : Design) (tokens : List Token) (cells : List Cell) (first k : ℕ) (f : NetFrame) → IsNetFrame design tokens cells first k f → LiesOn tokens k f.below
frame-lies design tokens cells first k f m = record { item = m.item; top = m.top; fewer = m.fewer }

module _ (design : Design) (node : Parts) (cells : List Cell) (blocks : List BlockRow) (start : Wires) (frames : List NetFrame) (way : Direction) (sub : IsSubproblem design node) (m : AreStored design node.tokens cells blocks start frames) (next : IsNext node.tokens (length frames) (token_in way)) where
  -- the frames of both items on top are there
  there : (d : NetFrame) → AreThere NetFrame (λ f. f.below) frames d
  there =
      pair-there NetFrame (λ f. f.below) (IsNetFrame design node.tokens cells (first_end design start)) design node frames way
      (frame-lies design node.tokens cells (first_end design start)) m.frames_are.each sub next

  -- the last frame, and that of the item under it, are those of the two items on top
  top-at : (d e : NetFrame) → AreTop design node.tokens cells start frames (get_or frames ((get_or frames (length frames - 1) d).below - 1) e) (get_or frames (length frames - 1) d)
  top-at d e =
      let p = pair-are NetFrame (λ f. f.below) (IsNetFrame design node.tokens cells (first_end design start)) design node frames way
      (frame-lies design node.tokens cells (first_end design start)) m.frames_are.each sub next d e in
      record { right = p.0; left = p.1 }

  -- a frame that was read at the last place is the last one
  right-same : (i : ℕ) (r : NetFrame) → i ≡ length frames - 1 → r ≡ get_or frames i r → get_or frames (length frames - 1) r ≡ r
  right-same i r e is = sym (is ∙ ap (λ (v : ℕ). get_or frames v r) e)

  -- below the item on top there is a frame, and it is among those kept
  pub top-right : (i : ℕ) (r : NetFrame) → i ≡ length frames - 1 → r ≡ get_or frames i r → (1 ≤ r.below) × (r.below ≤ length frames)
  top-right i r e is =
      let t = there r in
      let b = ap (λ v. v.below) (right-same i r e is) in
      (omega (arith, b, t.under), omega (arith, b, t.fewer))

  -- frames that were read at both places are those of the two items on top
  pub top-both : (i : ℕ) (r : NetFrame) → i ≡ length frames - 1 → r ≡ get_or frames i r → (l : NetFrame) → l ≡ get_or frames (r.below - 1) l → AreTop design node.tokens cells start frames l r
  top-both i r e is l is_l =
      subst (λ v. AreTop design node.tokens cells start frames v r) (sym is_l)
      (subst (λ v. AreTop design node.tokens cells start frames (get_or frames (v.below - 1) l) v) (right-same i r e is) (top-at r l))

-- what is joined
module _ (design : Design) (node : Parts) (cells : List Cell) (blocks : List BlockRow) (start : Wires) (frames : List NetFrame) (d : Direction) (l r : NetFrame) (sub : IsSubproblem design node) (m : AreStored design node.tokens cells blocks start frames) (next : IsNext node.tokens (length frames) (token_in d)) (t : AreTop design node.tokens cells start frames l r) where
  -- the item under the one on top
  abbrev L : Item
  L = t.left.item

  -- the item on top
  abbrev R : Item
  R = t.right.item

  -- the items under both
  abbrev rest : List Item
  rest = items_at node.tokens l.below

  -- after the operator the joined item is on top of the others
  pub top-items : items_at node.tokens (length frames + 1) ≡ item_in d L R ∷ rest
  top-items = items-joined node.tokens (length frames) d L R rest next (t.right.top ∙ ap (λ v. R ∷ v) t.left.top)

  -- the joined item has no more blocks than a design
  few : length (offsets (whole_extent design) (item_in d L R)) ≤ 320
  few = item-few design node (length frames + 1) (item_in d L R) rest sub top-items

  -- the left item has no more blocks than a design
  few-left : length (offsets (whole_extent design) L) ≤ 320
  few-left = omega (arith, few, joined-length (whole_extent design) d L R)

  -- the right item has no more blocks than a design
  few-right : length (offsets (whole_extent design) R) ≤ 320
  few-right = omega (arith, few, joined-length (whole_extent design) d L R)

  -- the extent of an item with no more blocks than a design is modest
  modest : (i : Item) (e : Extent) → e ≡ item_extent (whole_extent design) i → length (offsets (whole_extent design) i) ≤ 320 → IsModestExtent e
  modest i e is n =
      let s = item-small (whole_extent design) (whole-small design) i in
      subst IsModestExtent (sym is) record { least_w = omega (arith, s.least_w, n); most_w = omega (arith, s.most_w, n); least_h = omega (arith, s.least_h, n); most_h = omega (arith, s.most_h, n) }

  -- the extent of the left frame is modest
  pub modest-left : IsModestExtent l.extent
  modest-left = modest L l.extent t.left.extent few-left

  -- the extent of the right frame is modest
  pub modest-right : IsModestExtent r.extent
  modest-right = modest R r.extent t.right.extent few-right

  -- what the right item's blocks share, moved by the left item, is near
  pub pushed-fits : (j : ℕ) → j < length (weighed_nets design) → IsFitReach (pushed_reach d l.extent (cell_at cells (r.row + j)).reach)
  pushed-fits j lt =
      subst (λ v. IsFitReach (pushed_reach d v (cell_at cells (r.row + j)).reach)) (sym t.left.extent)
      (subst (λ v. IsFitReach (pushed_reach d (item_extent (whole_extent design) L) v)) (sym (t.right.row.each j lt))
      (pushed-near (whole_extent design) (whole-small design) L R (pins_at design j) d few))

  -- what the joined item's blocks share
  pub row-is : (j : ℕ) → j < length (weighed_nets design) → joined_reach d l.extent (cell_at cells (l.row + j)).reach (cell_at cells (r.row + j)).reach ≡ row (whole_extent design) (item_in d L R) (pins_at design j)
  row-is j lt =
      ap (λ v. joined_reach d v (cell_at cells (l.row + j)).reach (cell_at cells (r.row + j)).reach) t.left.extent
      ∙ ap (λ v. joined_reach d (item_extent (whole_extent design) L) v (cell_at cells (r.row + j)).reach) (t.left.row.each j lt)
      ∙ ap (joined_reach d (item_extent (whole_extent design) L) (row (whole_extent design) L (pins_at design j))) (t.right.row.each j lt)
      ∙ sym (row-joined (whole_extent design) (whole-small design) L R (pins_at design j) d few)

  -- the joined extents of both items are that of the joined item
  joined-sides : (d : Direction) → joined_extent d (item_extent (whole_extent design) L) (item_extent (whole_extent design) R) ≡ item_extent (whole_extent design) (item_in d L R)
  joined-sides Beside = refl
  joined-sides Above = refl

  module _ (under : Wires) (wires : AreWires design cells rest under) where
    -- the cell of each net for the joined item
    abbrev cell : ℕ → Cell
    cell = joined_cell cells d l.extent l.row r.row under.at

    -- the cell tells the part of the net with the joined item on top
    part-is : (j : ℕ) → j < length (weighed_nets design) → (cell j).part ≡ part design (whole_extent design) (item_in d L R ∷ rest) (pins_at design j)
    part-is j lt =
        ap (λ v. max v (reach_gap (cell j).reach)) (wires.each j lt)
        ∙ ap (λ v. max (part design (whole_extent design) rest (pins_at design j)) (reach_gap v)) (row-is j lt)
        ∙ sym (part-more design (item_in d L R) rest (pins_at design j) few)

    -- the cell tells the greatest gap of the net with the joined item on top
    hull-is : (j : ℕ) → j < length (weighed_nets design) → (cell j).hull ≡ hull_part design (whole_extent design) false (item_in d L R ∷ rest) (pins_at design j)
    hull-is j lt =
        ap (λ v. max v (reach_gap (cell j).reach)) (wires.hulls j lt)
        ∙ ap (λ v. max (hull_part design (whole_extent design) false rest (pins_at design j)) (reach_gap v)) (row-is j lt)
        ∙ sym (hull-more design (item_in d L R) rest (pins_at design j) few)

    -- the row of cells for the joined item
    abbrev made : List Cell
    made = map cell (range_with_len 0 (length (weighed_nets design)))

    -- behind the cells that were there stand those of the row
    cell-is : (j : ℕ) → j < length (weighed_nets design) → cell_at (cells ++ made) (length cells + j) ≡ cell j
    cell-is j lt =
        get_or-append_right cells made (length cells) (length cells + j) (record { reach = anywhere; part = 0; hull = 0 }) refl (omega arith)
        ∙ (let e : length cells + j - length cells ≡ j = omega arith in ap (cell_at made) e)
        ∙ get_or-map-range_with_len cell 0 (length (weighed_nets design)) j j (record { reach = anywhere; part = 0; hull = 0 }) lt (omega arith)

    -- a cell's part, as often as the net's weight says, is what the net takes
    weighed-is : (j : ℕ) → j < length (weighed_nets design) → weighed_cell (weights_of design.nets) cell (0 + j) ≡ (get_or (weighed_nets design) j (record { pins = []; weight = 0 })).weight * part design (whole_extent design) (item_in d L R ∷ rest) (pins_at design j)
    weighed-is j lt =
        let e : 0 + j ≡ j = omega arith in
        ap (weighed_cell (weights_of design.nets) cell) e
        ∙ ap (λ w. w * (cell j).part) (weight-at design.nets j (record { pins = []; weight = 0 }) lt)
        ∙ ap (λ v. (get_or (weighed_nets design) j (record { pins = []; weight = 0 })).weight * v) (part-is j lt)

    -- a cell's gap, as often as the net's weight says, is what the net takes by its gaps
    weighed-hull-is : (j : ℕ) → j < length (weighed_nets design) → weighed_hull (weights_of design.nets) cell (0 + j) ≡ (get_or (weighed_nets design) j (record { pins = []; weight = 0 })).weight * hull_part design (whole_extent design) false (item_in d L R ∷ rest) (pins_at design j)
    weighed-hull-is j lt =
        let e : 0 + j ≡ j = omega arith in
        ap (weighed_hull (weights_of design.nets) cell) e
        ∙ ap (λ w. w * (cell j).hull) (weight-at design.nets j (record { pins = []; weight = 0 }) lt)
        ∙ ap (λ v. (get_or (weighed_nets design) j (record { pins = []; weight = 0 })).weight * v) (hull-is j lt)

    -- the frame of the operator
    pub joined-pushed : (all : List Cell) (new : List NetFrame) (f : NetFrame) → All IsFitCell all → all ≡ cells ++ made → f.token ≡ token_in d → f.extent ≡ joined_extent d l.extent r.extent → f.below ≡ l.below → f.row ≡ length cells → f.wires.at ≡ length cells → AreSums (weights_of design.nets) cell (length (weighed_nets design)) f.wires → f.end ≡ length all → new ≡ frames ++ f ∷ [] → AreStored design node.tokens all blocks start new
    joined-pushed all new f fit is_all is_token is_extent is_below is_row is_at sums is_end is_new =
        let count : length (cells ++ made) ≡ length cells + length (weighed_nets design) = omega (arith, length-append cells made, length-map-range_with_len cell 0 (length (weighed_nets design))) in
        let whole = cells ++ made in
        let old : AreStored design node.tokens whole blocks start frames = stored-appended design node.tokens cells made blocks start frames m (subst (All IsFitCell) is_all fit) in
        let end : f.end ≡ length whole = is_end ∙ ap length is_all in
        let at_row : (j : ℕ) → j < length (weighed_nets design) → cell_at whole (f.row + j) ≡ cell j = λ j lt. ap (λ (v : ℕ). cell_at whole (v + j)) is_row ∙ cell-is j lt in
        let at_part : (j : ℕ) → j < length (weighed_nets design) → cell_at whole (f.wires.at + j) ≡ cell j = λ j lt. ap (λ (v : ℕ). cell_at whole (v + j)) is_at ∙ cell-is j lt in
        let is : IsNetFrame design node.tokens whole (first_end design start) (length frames + 1) f = record {
          item = item_in d L R;
          top = top-items ∙ ap (λ (v : ℕ). item_in d L R ∷ items_at node.tokens v) (sym is_below);
          fewer = omega (arith, is_below, t.left.fewer, t.right.fewer);
          extent = is_extent ∙ ap (λ v. joined_extent d v r.extent) t.left.extent ∙ ap (joined_extent d (item_extent (whole_extent design) L)) t.right.extent ∙ joined-sides d;
          row = record { inside = omega (arith, is_row, count); each = λ j lt. ap (λ c. c.reach) (at_row j lt) ∙ row-is j lt };
          wires = subst (λ v. AreWires design whole v f.wires) (sym top-items) record {
            inside = omega (arith, is_at, count);
            each = λ j lt. ap (λ c. c.part) (at_part j lt) ∙ part-is j lt;
            hulls = λ j lt. ap (λ c. c.hull) (at_part j lt) ∙ hull-is j lt;
            total = sums.part ∙ sums-agree (weighed_cell (weights_of design.nets) cell) (λ net. net.weight * part design (whole_extent design) (item_in d L R ∷ rest) (counted net.pins)) (weighed_nets design) 0 weighed-is;
            hull_total = sums.hull ∙ sums-agree (weighed_hull (weights_of design.nets) cell) (λ net. net.weight * hull_part design (whole_extent design) false (item_in d L R ∷ rest) (counted net.pins)) (weighed_nets design) 0 weighed-hull-is;
          };
          row_end = omega (arith, is_row, count, end);
          wires_end = omega (arith, is_at, count, end);
          after = omega (arith, old.start_is.wires.inside, end);
          end = omega (arith, end);
        } in
        subst (λ v. AreStored design node.tokens v blocks start new) (sym is_all)
        (subst (AreStored design node.tokens whole blocks start) (sym is_new)
        (frame-pushed design node.tokens whole blocks start frames f old (subst (IsNext node.tokens (length frames)) (sym is_token) next) is end))
