-- How the code goes, and nothing that the crate promises: how the pins of a net are read.
use Rattle.std.specs.Prelude.{◌≡◌, ℕ, ◌+◌, ◌*◌, ◌<◌, ◌≤◌, max, List, [], ◌∷◌, length, All, Bool, cond, ◌==◌, if◌then◌else◌, slice_index_or, true, fold, Option, Some, None, IfSome, pos, ◌-ℤ◌}
use Rattle.sf_model.specs.declared.design.Design.{Design}
use Rattle.sf_model.specs.declared.parts.Pin.{Pin}
use Rattle.sf_model.specs.declared.parts.Pin.TheVariants as pin
use Rattle.sf_model.specs.Legal.{block_count}
use Rattle.sf_model.specs.Limits.{IsThere}
use Rattle.sf_model.specs.Wire.{pad_at}
use Rattle.sf_node.specs.Parts.{Parts}
use Rattle.sf_standard.specs.declared.hull.Extent.{Extent}
use Rattle.sf_standard.specs.Hull.{point, small_side, extent_in}
use Rattle.sf_nets.specs.declared.layout.Home.{Home}
use Rattle.sf_nets.specs.declared.layout.Layout.{Layout}
use Rattle.sf_nets.specs.declared.layout.Seat.{Seat}
use Rattle.sf_nets.specs.declared.layout.Standing.{Standing}
use Rattle.sf_nets.specs.declared.pins.Pair.{Pair}
use Rattle.sf_nets.specs.declared.reach.Reach.{Reach}
use Rattle.sf_bound.specs.Only.{Tells}
use Rattle.sf_nets.specs.Layout.{AreSeated}
use Rattle.sf_nets.specs.Ends.{IsFitReach, met, anywhere, reach_gap}

-- the blocks and pads of a net are there
abbrev pub IsNet : Design → List Pin → Type 0
IsNet design pins = All (IsThere (length design.blocks) (length design.pads)) pins

-- the extent of a block by its number in a list
abbrev pub extent_from : List Extent → ℕ → Extent
extent_from extents b = slice_index_or extents b (record { least_w = 0; most_w = 0; least_h = 0; most_h = 0 })

-- where a block of this extent lies, anywhere in the outline
abbrev pub block_range : Design → Extent → Reach
block_range design e = record {
  across = record { low = pos e.least_w; high = pos (2 * design.outline.w) -ℤ pos e.least_w };
  upward = record { low = pos e.least_h; high = pos (2 * design.outline.h) -ℤ pos e.least_h };
}

-- where a block of this extent lies in its item
abbrev pub home_in : Extent → Seat → Home
home_in e s = record {
  item = s.item;
  reach = record {
    across = record { low = pos (2 * s.offset.least_x + e.least_w); high = pos (2 * s.offset.most_x + e.most_w) };
    upward = record { low = pos (2 * s.offset.least_y + e.least_h); high = pos (2 * s.offset.most_y + e.most_h) };
  };
}

-- the home of a block by its last seat in the list, or d where it has none
abbrev pub last_home : (ℕ → Extent) → Option Home → ℕ → List Seat → Option Home
last_home extent d b [] = d
last_home extent d b (s ∷ ss) = last_home extent (if s.offset.block == b then Some (home_in (extent s.offset.block) s) else d) b ss

-- what the pins of a block of this extent are measured by
abbrev pub standing_of : Design → Extent → Option Home → Standing
standing_of design e home = record { side = small_side e; range = block_range design e; home = home }

-- the standing of each block, by its extent and its seat
abbrev pub standing_by : Design → List Extent → List Seat → ℕ → Standing
standing_by design extents seats b = standing_of design (extent_from extents b) (last_home (extent_from extents) None b seats)

-- the layout of a subproblem
pub record IsLayout (design : Design) (node : Parts) (layout : Layout) : Type 0 where
  pub extents : Tells (extent_in design node) (block_count design) layout.extents.items
  pub stack : AreSeated design node layout.held.items layout.seats.items
  pub table : Tells (standing_by design layout.extents.items layout.seats.items) (block_count design) layout.table.items

-- numbers that fit, and an item that is there
pub record IsReadyAt (items : ℕ) (s : Standing) : Type 0 where
  pub side : s.side ≤ 1048576
  pub range : IsFitReach s.range
  pub home : IfSome s.home (λ h. (h.item < items) × IsFitReach h.reach)

-- a table that pins can be read by
pub record IsReady (design : Design) (items : ℕ) (table : List Standing) : Type 0 where
  pub count : length table ≡ block_count design
  pub each : All (IsReadyAt items) table

-- the same for some number of items
abbrev pub IsReadable : Design → List Standing → Type 0
IsReadable design table = (items : ℕ) × IsReady design items table

-- the standing of a block by its number in a table
abbrev pub standing_at : List Standing → ℕ → Standing
standing_at table b = slice_index_or table b (record { side = 0; range = anywhere; home = None })

-- where a pad lies, to the point
abbrev pub pad_reach : Design → ℕ → Reach
pad_reach design p = record { across = point (pad_at design p).x; upward = point (pad_at design p).y }

-- where a pin lies, anywhere in the outline
abbrev pub pin_range : Design → List Standing → Pin → Reach
pin_range design table (pin.Block b) = (standing_at table b).range
pin_range design table (pin.Pad p) = pad_reach design p

-- the item in which a pin counts, and where it lies there; a pad counts in the one item of a complete subproblem
abbrev pub pin_home : Design → List Standing → Bool → Pin → Option Home
pin_home design table complete (pin.Block b) = (standing_at table b).home
pin_home design table complete (pin.Pad p) = cond complete (Some (record { item = 0; reach = pad_reach design p })) None

-- what a reach shares with a pin's home
abbrev pub narrowed : Reach → Option Home → Reach
narrowed r None = r
narrowed r (Some h) = met r h.reach

-- the same where the home is in the item i
abbrev pub narrowed_in : ℕ → Reach → Option Home → Reach
narrowed_in i r None = r
narrowed_in i r (Some h) = if h.item == i then met r h.reach else r

-- what the pins share in the item i
abbrev pub shared_in : Design → List Standing → Bool → List Pin → ℕ → Reach
shared_in design table complete pins i = fold (λ r p. narrowed_in i r (pin_home design table complete p)) anywhere pins

-- the gap of a pin's item, where it has one
abbrev pub home_gap : (ℕ → Reach) → Option Home → ℕ
home_gap reach None = 0
home_gap reach (Some h) = reach_gap (reach h.item)

-- the greatest of the gaps of the pins' items
abbrev pub greatest_gap : Design → List Standing → Bool → (ℕ → Reach) → List Pin → ℕ
greatest_gap design table complete reach pins = fold (λ n p. max n (home_gap reach (pin_home design table complete p))) 0 pins

-- the greatest number and the greatest sum of two, with one number more
abbrev pub paired : Option ℕ → ℕ → ℕ → Pair
paired None sum n = record { most = Some n; sum = sum }
paired (Some m) sum n = record { most = Some (max m n); sum = max sum (m + n) }

-- the pair before any side
abbrev pub no_pair : Pair
no_pair = record { most = None; sum = 0 }

-- a pair with the lesser side of a pin's block; a pad has none
abbrev pub pairs_pin : List Standing → Pair → Pin → Pair
pairs_pin table q (pin.Block b) = paired q.most q.sum (standing_at table b).side
pairs_pin table q (pin.Pad p) = q

-- what all pins share anywhere in the outline
abbrev pub shared_ranges : Design → List Standing → List Pin → Reach
shared_ranges design table pins = fold (λ r p. met r (pin_range design table p)) anywhere pins

-- the greatest sum of the lesser sides of two blocks at the pins
abbrev pub paired_sides : List Standing → List Pin → Pair
paired_sides table pins = fold (pairs_pin table) no_pair pins

-- what all pins share in the one item of a complete subproblem
abbrev pub shared_homes : Design → List Standing → List Pin → Reach
shared_homes design table pins = fold (λ r p. narrowed r (pin_home design table true p)) anywhere pins
