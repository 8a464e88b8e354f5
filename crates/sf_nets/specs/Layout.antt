-- How the code goes, and nothing that the crate promises: where the blocks of a subproblem stand: the extent of each, and its seat in an item.
use Rattle.std.specs.Prelude.{◌≡◌, ℕ, suc, ◌+◌, ◌-◌, ◌<◌, ◌≤◌, min, max, List, [], ◌∷◌, ◌++◌, length, map, reverse, take, drop, All, count_by, ◌==◌}
use Rattle.sf_model.specs.declared.design.Design.{Design}
use Rattle.sf_model.specs.declared.parts.Shape.{Shape}
use Rattle.sf_model.specs.Legal.{block_count}
use Rattle.sf_polish.specs.declared.expr.Token.{Token}
use Rattle.sf_polish.specs.declared.expr.Token.TheVariants as token
use Rattle.sf_node.specs.Parts.{Parts}
use Rattle.sf_standard.specs.declared.hull.Extent.{Extent}
use Rattle.sf_standard.specs.declared.hull.Offset.{Offset}
use Rattle.sf_standard.specs.Items.{Item, items_of}
use Rattle.sf_standard.specs.Hull.{item_extent, offsets, moved_right, moved_up, extent_in}
use Rattle.sf_curves.specs.declared.direction.Direction.{Direction}
use Rattle.sf_curves.specs.declared.direction.Direction.TheVariants as way
use Rattle.sf_nets.specs.declared.layout.Held.{Held}
use Rattle.sf_nets.specs.declared.layout.Seat.{Seat}

-- of one shape, and of some with one more
abbrev pub single_extent : Shape → Extent
single_extent s = record { least_w = s.w; most_w = s.w; least_h = s.h; most_h = s.h }

-- an extent with one shape more
abbrev pub with_shape : Extent → Shape → Extent
with_shape e s = record { least_w = min e.least_w s.w; most_w = max e.most_w s.w; least_h = min e.least_h s.h; most_h = max e.most_h s.h }

-- the sides of two joined items
abbrev pub beside_extent : Extent → Extent → Extent
beside_extent p q = record { least_w = p.least_w + q.least_w; most_w = p.most_w + q.most_w; least_h = max p.least_h q.least_h; most_h = max p.most_h q.most_h }

-- the sides of two items, the second above the first
abbrev pub above_extent : Extent → Extent → Extent
above_extent p q = record { least_w = max p.least_w q.least_w; most_w = max p.most_w q.most_w; least_h = p.least_h + q.least_h; most_h = p.most_h + q.most_h }

-- what an operator does to the sides of two items, and to the places of the second one's blocks
abbrev pub joined_extent : Direction → Extent → Extent → Extent
joined_extent way.Beside = beside_extent
joined_extent way.Above = above_extent

-- what it does to the places of the blocks of the second one
abbrev pub moved : Direction → Extent → Offset → Offset
moved way.Beside = moved_right
moved way.Above = moved_up

-- an item as the stack holds it: its sides, and how many blocks it has
abbrev pub held_of : (ℕ → Extent) → Item → Held
held_of extent i = record { extent = item_extent extent i; blocks = length (offsets extent i) }

-- a seat in the item of this number
abbrev pub seat_at : ℕ → Offset → Seat
seat_at item o = record { item = item; offset = o }

-- the seats of the blocks of some items, of which the first has the number k
abbrev pub seats_from : (ℕ → Extent) → ℕ → List Item → List Seat
seats_from extent k [] = []
seats_from extent k (i ∷ is) = map (seat_at k) (offsets extent i) ++ seats_from extent (suc k) is

-- the items, the last first, and what the code keeps of them, the last on top
pub record IsLaid (extent : ℕ → Extent) (items : List Item) (stack : List Held) (places : List Seat) : Type 0 where
  pub held : stack ≡ map (held_of extent) (reverse items)
  pub seats : places ≡ seats_from extent 0 (reverse items)

-- a seat in another item, after a move
abbrev pub reseated : ℕ → (Offset → Offset) → Seat → Seat
reseated item move s = record { item = item; offset = move s.offset }

-- the top two items are joined, and the seats of the upper one are moved
pub record JoinsTop (join : Extent → Extent → Extent) (move : Extent → Offset → Offset) (old new : List Held) (old_seats new_seats : List Seat) : Type 0 where
  pub below : List Held
  pub left : Held
  pub right : Held
  pub was : old ≡ (below ++ left ∷ []) ++ right ∷ []
  pub is : new ≡ below ++ (record { extent = join left.extent right.extent; blocks = left.blocks + right.blocks }) ∷ []
  pub seats : let start = length old_seats - right.blocks in
      new_seats ≡ take start old_seats ++ map (reseated (length below) (move left.extent)) (drop start old_seats)

-- the seat of a block that is an item by itself
abbrev pub own_seat : ℕ → ℕ → Seat
own_seat item b = seat_at item (record { block = b; least_x = 0; most_x = 0; least_y = 0; most_y = 0 })

-- what one token does to the items and to the seats: a block is an item by itself, an operator joins the top two
abbrev pub Lays : (ℕ → Extent) → Token → List Held → List Held → List Seat → List Seat → Type 0
Lays extent (token.Block b) old new old_seats new_seats =
    (new ≡ old ++ (record { extent = extent b; blocks = 1 }) ∷ [])
    × (new_seats ≡ old_seats ++ own_seat (length old) b ∷ [])
Lays extent token.Beside old new old_seats new_seats = JoinsTop (joined_extent way.Beside) (moved way.Beside) old new old_seats new_seats
Lays extent token.Above old new old_seats new_seats = JoinsTop (joined_extent way.Above) (moved way.Above) old new old_seats new_seats

-- numbers of sides and places are at most 320 times 2^20
abbrev pub IsModest : ℕ → Type 0
IsModest n = n ≤ 335544320

-- so are those of an extent
pub record IsModestExtent (e : Extent) : Type 0 where
  pub least_w : IsModest e.least_w
  pub most_w : IsModest e.most_w
  pub least_h : IsModest e.least_h
  pub most_h : IsModest e.most_h

-- and those of the place of a block in its item
pub record IsModestOffset (o : Offset) : Type 0 where
  pub least_x : IsModest o.least_x
  pub most_x : IsModest o.most_x
  pub least_y : IsModest o.least_y
  pub most_y : IsModest o.most_y

-- no number of the items and of the seats is greater, no item has more blocks than there are seats, and these are at most 320
pub record AreModest (held : List Held) (seats : List Seat) : Type 0 where
  pub extents : All (λ h. IsModestExtent h.extent) held
  pub blocks : All (λ h. h.blocks ≤ length seats) held
  pub offsets : All (λ s. IsModestOffset s.offset) seats
  pub few : length seats ≤ 320

-- the items of a subproblem are laid out, and no block has two seats
pub record AreSeated (design : Design) (node : Parts) (stack : List Held) (places : List Seat) : Type 0 where
  pub laid : IsLaid (extent_in design node) (items_of node) stack places
  pub once : (b : ℕ) → count_by (λ s. s.offset.block == b) places ≤ 1
  pub inside : All (λ s. s.offset.block < block_count design) places
  pub few : length places ≤ 320
