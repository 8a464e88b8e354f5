-- How the code goes, and nothing that the crate promises: what is kept of the nets that count along a path of tokens whose spans are whole.
use Rattle.std.specs.Prelude.{◌≡◌, ℕ, ◌+◌, ◌*◌, ◌-◌, ◌<◌, ◌≤◌, max, List, [], ◌∷◌, ◌++◌, length, map, take, zip, filter, fold, sum_by, All, AllPairs, true, false, nat_lt, if◌then◌else◌, pos, ◌+ℤ◌, int_lt, Option, Some, IfSome, slice_index_or}
use Rattle.std.specs.List.{range_with_len}
use Rattle.sf_model.specs.declared.design.Design.{Design}
use Rattle.sf_model.specs.declared.parts.Net.{Net}
use Rattle.sf_model.specs.declared.parts.Pin.{Pin}
use Rattle.sf_model.specs.declared.parts.Pin.TheVariants as pin
use Rattle.sf_model.specs.Legal.{block_count}
use Rattle.sf_polish.specs.declared.expr.Token.{Token}
use Rattle.sf_node.specs.declared.part.Part.{Part}
use Rattle.sf_node.specs.declared.part.Part.TheVariants as by
use Rattle.sf_node.specs.declared.part.Part.TheVariants.{Range, Pair}
use Rattle.sf_node.specs.Parts.{Parts}
use Rattle.sf_node.specs.Subproblem.{root, is_complete}
use Rattle.sf_standard.specs.declared.hull.Extent.{Extent}
use Rattle.sf_standard.specs.declared.hull.Interval.{Interval}
use Rattle.sf_standard.specs.Items.{Item, Block}
use Rattle.sf_standard.specs.Standard.{net_part, wires_by}
use Rattle.sf_standard.specs.Hull.{item_extent, offsets, offset_x, offset_y, of_pins, contains_pin, range_part, pair_part, hull_part, extent_in}
use Rattle.sf_curves.specs.declared.direction.Direction.{Direction}
use Rattle.sf_curves.specs.declared.direction.Direction.TheVariants as way
use Rattle.sf_curves.specs.Direction.{token_in}
use Rattle.sf_frames.specs.Kept.{items_at, IsNext}
use Rattle.sf_bounds.specs.declared.net_frame.BlockRow.{BlockRow}
use Rattle.sf_bounds.specs.declared.net_frame.Changing.{Changing}
use Rattle.sf_bounds.specs.declared.net_frame.Changing.TheVariants as changing
use Rattle.sf_bounds.specs.declared.net_frame.Ending.{Ending}
use Rattle.sf_bounds.specs.declared.net_frame.Ending.TheVariants.{Open, Joined}
use Rattle.sf_bounds.specs.declared.net_frame.Cell.{Cell}
use Rattle.sf_bounds.specs.declared.net_frame.NetFrame.{NetFrame}
use Rattle.sf_bounds.specs.declared.net_frame.Nets.{Nets}
use Rattle.sf_bounds.specs.declared.net_frame.Wires.{Wires}
use Rattle.sf_nets.specs.declared.reach.Reach.{Reach}
use Rattle.sf_nets.specs.Pins.{pad_reach}
use Rattle.sf_nets.specs.Ends.{IsFitReach, shared, met, endless, anywhere, reach_gap}

-- the pins that count: none where they are fewer than two
abbrev pub counted : List Pin → List Pin
counted pins = if nat_lt (length pins) 2 then [] else pins

-- the nets that count: of one of weight 0 nothing is kept
abbrev pub of_weight : List Net → List Net
of_weight nets = filter (λ n. nat_lt 0 n.weight) nets

-- those of a design
abbrev pub weighed_nets : Design → List Net
weighed_nets design = of_weight design.nets

-- their weights
abbrev pub weights_of : List Net → List ℕ
weights_of nets = map (λ n. n.weight) (of_weight nets)

-- those of a design with what paths leave of them
abbrev pub weighed_lefts : Design → List (ℕ × Net)
weighed_lefts design = filter (λ n. nat_lt 0 n.1.weight) (zip design.routes.left design.nets)

-- that alone
abbrev pub lefts_of : Design → List ℕ
lefts_of design = map (λ n. n.0) (weighed_lefts design)

-- the counted pins of one of them by number
abbrev pub pins_at : Design → ℕ → List Pin
pins_at design j = counted (slice_index_or (weighed_nets design) j (record { pins = []; weight = 0 })).pins

-- the extent of a block in its whole span
abbrev pub whole_extent : Design → ℕ → Extent
whole_extent design b = extent_in design (root design) b

-- what the pins' blocks in an item share, across and upward from the item's corner
abbrev pub row : (ℕ → Extent) → Item → List Pin → Reach
row extent item pins =
    let os = of_pins pins (offsets extent item) in
    record { across = fold shared endless (map (offset_x extent) os); upward = fold shared endless (map (offset_y extent) os) }

-- a reach narrowed by a pin, where that is a pad
abbrev pub with_pad : Design → Reach → Pin → Reach
with_pad design r (pin.Block b) = r
with_pad design r (pin.Pad p) = met r (pad_reach design p)

-- what all pads at the pins share
abbrev pub pads_share : Design → List Pin → Reach
pads_share design pins = fold (with_pad design) anywhere pins

-- the greatest of range, pair and the gaps in these items
abbrev pub part : Design → (ℕ → Extent) → List Item → List Pin → ℕ
part design extent items pins = max (range_part design extent pins) (max (pair_part extent pins) (hull_part design extent false items pins))

-- what a block's own pins share, where it is an item by itself
abbrev pub own_reach : List Pin → ℕ → Extent → Reach
own_reach pins b e = if contains_pin b pins then (record { across = record { low = pos e.least_w; high = pos e.most_w }; upward = record { low = pos e.least_h; high = pos e.most_h } }) else anywhere

-- an interval that an item to the left moves; what no block narrowed stays
abbrev pub pushed : ℕ → ℕ → Interval → Interval
pushed least most i = if int_lt i.low (pos 0) then i else (record { low = i.low +ℤ pos (2 * least); high = i.high +ℤ pos (2 * most) })

-- a reach that an item to the left, or one below, moves
abbrev pub pushed_reach : Direction → Extent → Reach → Reach
pushed_reach way.Beside e r = record r { across = pushed e.least_w e.most_w r.across }
pushed_reach way.Above e r = record r { upward = pushed e.least_h e.most_h r.upward }

-- what two joined items share
abbrev pub joined_reach : Direction → Extent → Reach → Reach → Reach
joined_reach d e p q = met p (pushed_reach d e q)

-- the cell of a net after two items are joined, from those of both and the one that tells its part in the items under them
abbrev pub cell_of : Direction → Extent → Cell → Cell → Cell → Cell
cell_of d e left right under =
    let reach = joined_reach d e left.reach right.reach in
    record { reach = reach; part = max under.part (reach_gap reach); hull = max under.hull (reach_gap reach) }

-- the cell at a place
abbrev pub cell_at : List Cell → ℕ → Cell
cell_at cells i = slice_index_or cells i (record { reach = anywhere; part = 0; hull = 0 })

-- that of the j-th net, where its cells stand in three rows
abbrev pub joined_cell : List Cell → Direction → Extent → ℕ → ℕ → ℕ → ℕ → Cell
joined_cell cells d e left right under j = cell_of d e (cell_at cells (left + j)) (cell_at cells (right + j)) (cell_at cells (under + j))

-- the cell of a net in the row of a block that is an item by itself
abbrev pub block_cell : ℕ → Extent → Net → Cell
block_cell b e net = record { reach = own_reach (counted net.pins) b e; part = 0; hull = 0 }

-- the cell of a net before any token
abbrev pub start_cell : Design → Net → Cell
start_cell design net = record { reach = pads_share design (counted net.pins); part = net_part design (root design) net; hull = 0 }

-- the part of the cell of a net, as often as the net's weight says
abbrev pub weighed_cell : List ℕ → (ℕ → Cell) → ℕ → ℕ
weighed_cell weights cell j = slice_index_or weights j 0 * (cell j).part

-- the same of its gaps alone
abbrev pub weighed_hull : List ℕ → (ℕ → Cell) → ℕ → ℕ
weighed_hull weights cell j = slice_index_or weights j 0 * (cell j).hull

-- the part of the bound that changes along a path
abbrev pub changed : Changing → Part
changed changing.Hull = by.Hull
changed changing.Full = by.Full

-- sums of so many nets
pub record AreSmall (n : ℕ) (w : Wires) : Type 0 where
  pub part : w.sum ≤ 714000000000 * n
  pub hull : w.hull ≤ 714000000000 * n

-- the sums over the cells of the first n nets
pub record AreSums (weights : List ℕ) (cell : ℕ → Cell) (n : ℕ) (w : Wires) : Type 0 where
  pub part : w.sum ≡ sum_by (weighed_cell weights cell) (range_with_len 0 n)
  pub hull : w.hull ≡ sum_by (weighed_hull weights cell) (range_with_len 0 n)
  pub small : AreSmall n w

-- numbers that fit
pub record IsFitCell (c : Cell) : Type 0 where
  pub near : IsFitReach c.reach
  pub small : c.part ≤ 2800000000
  pub hull : c.hull ≤ 2800000000

-- the list goes on from another
abbrev pub IsLonger : List Cell → List Cell → Type 0
IsLonger old new = (more : List Cell) × (new ≡ old ++ more)

-- the cells from a place on tell for each net that counts what its blocks in the item share
pub record IsRow (design : Design) (cells : List Cell) (item : Item) (at : ℕ) : Type 0 where
  pub inside : at + length (weighed_nets design) ≤ length cells
  pub each : (j : ℕ) → j < length (weighed_nets design) → (cell_at cells (at + j)).reach ≡ row (whole_extent design) item (pins_at design j)

-- the cells from a place on tell the part of each net that counts, and its gaps alone, and these make the sums
pub record AreWires (design : Design) (cells : List Cell) (items : List Item) (w : Wires) : Type 0 where
  pub inside : w.at + length (weighed_nets design) ≤ length cells
  pub each : (j : ℕ) → j < length (weighed_nets design) → (cell_at cells (w.at + j)).part ≡ part design (whole_extent design) items (pins_at design j)
  pub hulls : (j : ℕ) → j < length (weighed_nets design) → (cell_at cells (w.at + j)).hull ≡ hull_part design (whole_extent design) false items (pins_at design j)
  pub total : w.sum ≡ sum_by (λ net. net.weight * part design (whole_extent design) items (counted net.pins)) (weighed_nets design)
  pub hull_total : w.hull ≡ sum_by (λ net. net.weight * hull_part design (whole_extent design) false items (counted net.pins)) (weighed_nets design)

-- the rows of the first n blocks
pub record AreBlockRows (design : Design) (n : ℕ) (cells : List Cell) (blocks : List BlockRow) : Type 0 where
  pub count : length blocks ≡ n
  pub extents : (b : ℕ) (d : BlockRow) → b < n → (slice_index_or blocks b d).extent ≡ whole_extent design b
  pub rows : (b : ℕ) (d : BlockRow) → b < n → IsRow design cells (Block b) (slice_index_or blocks b d).row
  pub fit : All IsFitCell cells

-- how many cells there are before the first frame
abbrev pub first_end : Design → Wires → ℕ
first_end design start = start.at + length (weighed_nets design)

-- the rows of all blocks, and the wires and pads before any token
pub record IsStart (design : Design) (cells : List Cell) (blocks : List BlockRow) (start : Wires) : Type 0 where
  pub rows : AreBlockRows design (block_count design) (take start.at cells) blocks
  pub pads : (j : ℕ) → j < length (weighed_nets design) → (cell_at cells (start.at + j)).reach ≡ pads_share design (pins_at design j)
  pub wires : AreWires design cells [] start

-- the frame of the k-th token tells the item on top after k tokens, and the wires after it
pub record IsNetFrame (design : Design) (tokens : List Token) (cells : List Cell) (first k : ℕ) (f : NetFrame) : Type 0 where
  pub item : Item
  pub top : items_at tokens k ≡ item ∷ items_at tokens f.below
  pub fewer : f.below < k
  pub extent : f.extent ≡ item_extent (whole_extent design) item
  pub row : IsRow design cells item f.row
  pub wires : AreWires design cells (items_at tokens k) f.wires
  pub row_end : f.row + length (weighed_nets design) ≤ f.end
  pub wires_end : f.wires.at + length (weighed_nets design) ≤ f.end
  pub after : first ≤ f.end
  pub end : f.end ≤ length cells

-- the token of a frame
abbrev pub token_of : NetFrame → Token
token_of f = f.token

-- the frames of the first tokens, in their order
pub record AreNetFrames (design : Design) (tokens : List Token) (cells : List Cell) (first : ℕ) (frames : List NetFrame) : Type 0 where
  pub few : length frames ≤ length tokens
  pub are : map token_of frames ≡ take (length frames) tokens
  pub each : (k : ℕ) (d : NetFrame) → k < length frames → IsNetFrame design tokens cells first (k + 1) (slice_index_or frames k d)
  pub ends : AllPairs (λ f g. f.end ≤ g.end) frames

-- all that is kept of a path
pub record AreStored (design : Design) (tokens : List Token) (cells : List Cell) (blocks : List BlockRow) (start : Wires) (frames : List NetFrame) : Type 0 where
  pub fit : All IsFitCell cells
  pub start_is : IsStart design cells blocks start
  pub frames_are : AreNetFrames design tokens cells (first_end design start) frames

-- with the weights of the nets that count and what paths leave of them, and the sums of the ranges and of the pairs, which no token changes
pub record AreKept (design : Design) (tokens : List Token) (nets : Nets) : Type 0 where
  pub weights : nets.weights.items ≡ weights_of design.nets
  pub lefts : nets.lefts.items ≡ lefts_of design
  pub ranges : nets.ranges ≡ wires_by design (root design) Range
  pub pairs : nets.pairs ≡ wires_by design (root design) Pair
  pub stored : AreStored design tokens nets.cells.items nets.blocks.items nets.start nets.frames.items

-- those of the kept path
abbrev pub tokens_of : Nets → List Token
tokens_of nets = map token_of nets.frames.items

-- nothing is kept yet, or all that belongs to the kept path
abbrev pub AreKeptOrNone : Design → Option Nets → Type 0
AreKeptOrNone design kept = IfSome kept (λ nets. AreKept design (tokens_of nets) nets)

-- what is kept is of so many of these tokens
pub record AreFirst (design : Design) (tokens : List Token) (count : ℕ) (kept : Option Nets) : Type 0 where
  pub nets : Nets
  pub some : kept ≡ Some nets
  pub are : AreKept design tokens nets
  pub all : length nets.frames.items ≡ count

-- how the tokens end: those of an incomplete subproblem all have frames, the last operator of a complete one needs none
abbrev pub IsEnding : Parts → Ending → Type 0
IsEnding node Open = is_complete node ≡ false
IsEnding node (Joined d) = (is_complete node ≡ true) × IsNext node.tokens (length node.tokens - 1) (token_in d)

-- how many tokens have frames
abbrev pub framed : Ending → List Token → ℕ
framed Open tokens = length tokens
framed (Joined d) tokens = length tokens - 1

-- the frames of the two items on top
pub record AreTop (design : Design) (tokens : List Token) (cells : List Cell) (start : Wires) (frames : List NetFrame) (l r : NetFrame) : Type 0 where
  pub right : IsNetFrame design tokens cells (first_end design start) (length frames) r
  pub left : IsNetFrame design tokens cells (first_end design start) r.below l

-- how many cells the first frames need
pub record IsNetEnd (design : Design) (start : Wires) (frames : List NetFrame) (count e : ℕ) : Type 0 where
  pub none : count ≡ 0 → e ≡ first_end design start
  pub last : (d : NetFrame) → 0 < count → (slice_index_or frames (count - 1) d).end ≡ e
