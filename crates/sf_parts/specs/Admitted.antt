-- Which parts may become a design, and the first reason why others may not.
use Rattle.std.specs.Prelude.{◌≡◌, ◌≢◌, ◌≤◌, IsTrue, ℕ, ◌+◌, ◌-◌, ◌^◌, min, Result, MatchResult, ◌<◌, Bool, false, ◌&&◌, ◌||◌, nat_lt, ◌==◌, List, [], ◌∷◌, ◌++◌, map, length, sum_by, flat_map, All, Option, Some, None, is_some, is_none, if◌then◌else◌, ℤ, nat_abs}
use Rattle.std.specs.List.{list_any, position_from}
use Rattle.std.specs.Str.{bytes_eq}
use Rattle.sf_parts.specs.declared.fault.BuildFault.{BuildFault}
use Rattle.sf_parts.specs.declared.fault.BuildFault.TheVariants as fault
use Rattle.sf_parts.specs.declared.fault.Limit.{Limit}
use Rattle.sf_parts.specs.declared.fault.Limit.TheVariants as limit
use Rattle.sf_parts.specs.declared.raw.Kind.{Kind}
use Rattle.sf_parts.specs.declared.raw.Kind.TheVariants as kind
use Rattle.sf_parts.specs.declared.raw.Parts.{Parts}
use Rattle.sf_parts.specs.declared.raw.RawBlock.{RawBlock}
use Rattle.sf_parts.specs.declared.raw.RawNet.{RawNet}
use Rattle.sf_parts.specs.declared.raw.RawPad.{RawPad}
use Rattle.sf_parts.specs.declared.raw.RawPin.{RawPin}
use Rattle.sf_parts.specs.declared.raw.RawPin.TheVariants as raw

-- The names of blocks and of pads, each in its order.

-- the names of the blocks, in their order
abbrev pub block_names : List RawBlock → List (List ℕ)
block_names blocks = map (λ b. b.name) blocks

-- the names of the pads, in their order
abbrev pub pad_names : List RawPad → List (List ℕ)
pad_names pads = map (λ p. p.name) pads

-- some block has the name
abbrev pub is_block_name : Parts → List ℕ → Bool
is_block_name parts n = list_any (bytes_eq n) (block_names parts.blocks)

-- some pad has the name
abbrev pub is_pad_name : Parts → List ℕ → Bool
is_pad_name parts n = list_any (bytes_eq n) (pad_names parts.pads)

-- Limits.

-- the fault of a quantity that passes its limit
abbrev pub over : Limit → ℕ → ℕ → List BuildFault
over quantity most found = if nat_lt most found then fault.OverLimit quantity found most ∷ [] else []

-- the pins are counted as far as 64 bits go
abbrev pub over_counts : Parts → List BuildFault
over_counts parts =
    over limit.Blocks 320 (length parts.blocks)
    ++ over limit.Pads 16384 (length parts.pads)
    ++ over limit.Nets 65536 (length parts.nets)
    ++ over limit.Pins 1048576 (min (sum_by (λ n. length n.pins) parts.nets) (2 ^ 64 - 1))

-- the faults of a block: of a hard one the sides, of a soft one the area
abbrev pub over_kind : Kind → List BuildFault
over_kind (kind.Hard w h) = over limit.Side (2 ^ 20) w ++ over limit.Side (2 ^ 20) h
over_kind (kind.Soft area least most) = over limit.Area (2 ^ 40) area

-- the faults of a place: the coordinates that lie too far from 0
abbrev pub over_place : Option (ℤ × ℤ) → List BuildFault
over_place None = []
over_place (Some at) = over limit.Coordinate (2 ^ 20) (nat_abs at.0) ++ over limit.Coordinate (2 ^ 20) (nat_abs at.1)

-- the faults of the places of all pads, where pads count
abbrev pub over_places : Parts → List BuildFault
over_places parts = if parts.pads_in then flat_map (λ p. over_place p.place) parts.pads else []

-- Names.

-- the names that stand again further on
abbrev pub repeated_names : List (List ℕ) → List (List ℕ)
repeated_names [] = []
repeated_names (n ∷ ns) = if list_any (bytes_eq n) ns then n ∷ repeated_names ns else repeated_names ns

-- the fault of a name that is of a block and of a pad
abbrev pub if_both : Parts → List ℕ → List BuildFault
if_both parts n = if is_block_name parts n && is_pad_name parts n then fault.DuplicateName n ∷ [] else []

-- the fault of a name that is of no block and of no pad
abbrev pub if_neither : Parts → List ℕ → List BuildFault
if_neither parts n = if is_block_name parts n || is_pad_name parts n then [] else fault.UnknownName n ∷ []

-- the fault of the name of a pin, which may have none
abbrev pub at_pin_name : (List ℕ → List BuildFault) → RawPin → List BuildFault
at_pin_name f (raw.Named n) = f n
at_pin_name f (raw.Block b) = []
at_pin_name f (raw.Pad p) = []

-- the faults of the names of pins, net by net
abbrev pub at_pin_names : (List ℕ → List BuildFault) → List RawNet → List BuildFault
at_pin_names f nets = flat_map (λ n. flat_map (at_pin_name f) n.pins) nets

-- the fault of the name of a pad that has a place
abbrev pub at_placed_name : (List ℕ → List BuildFault) → RawPad → List BuildFault
at_placed_name f p = if is_some p.place then f p.name else []

-- names of two blocks, of two pads, or of a block and of a pad where a pin has the name or it has a place
abbrev pub duplicates : Parts → List BuildFault
duplicates parts =
    map fault.DuplicateName (repeated_names (block_names parts.blocks))
    ++ map fault.DuplicateName (repeated_names (pad_names parts.pads))
    ++ at_pin_names (if_both parts) parts.nets
    ++ flat_map (at_placed_name (if_both parts)) parts.pads

-- names of pins and of placed things that are of no block and of no pad
abbrev pub unknowns : Parts → List BuildFault
unknowns parts = at_pin_names (if_neither parts) parts.nets ++ flat_map (if_neither parts) parts.strangers

-- Places.

-- the index of a pin's block, if it has one
abbrev pub block_of : List RawBlock → RawPin → Option ℕ
block_of blocks (raw.Named n) = position_from (bytes_eq n) 0 (block_names blocks)
block_of blocks (raw.Block b) = Some b
block_of blocks (raw.Pad p) = None

-- the index of a pin's pad, if it has one
abbrev pub pad_of : List RawPad → RawPin → Option ℕ
pad_of pads (raw.Named n) = position_from (bytes_eq n) 0 (pad_names pads)
pad_of pads (raw.Block b) = None
pad_of pads (raw.Pad p) = Some p

-- the place that was found is i
abbrev pub is_index : ℕ → Option ℕ → Bool
is_index i None = false
is_index i (Some j) = j == i

-- whether a net has a pin of the pad at index i
abbrev pub is_wired : Parts → ℕ → Bool
is_wired parts i = list_any (λ p. is_index i (pad_of parts.pads p)) (flat_map (λ n. n.pins) parts.nets)

-- of pads that begin at index i, the faults of those that are in a net and have no place
abbrev pub unplaced_faults : (ℕ → Bool) → ℕ → List RawPad → List BuildFault
unplaced_faults wired i [] = []
unplaced_faults wired i (p ∷ ps) = if is_none p.place && wired i then fault.MissingPlace p.name ∷ unplaced_faults wired (i + 1) ps else unplaced_faults wired (i + 1) ps

-- the faults of pads that are in a net and have no place, where pads count
abbrev pub missing_places : Parts → List BuildFault
missing_places parts = if parts.pads_in then unplaced_faults (is_wired parts) 0 parts.pads else []

-- All faults of the parts, in the order in which they are answered.

-- the fault of parts without a block
abbrev pub no_blocks : Parts → List BuildFault
no_blocks parts = if length parts.blocks == 0 then fault.NoBlocks ∷ [] else []

-- what passes a limit: numbers first, then blocks, then places
abbrev pub over_limits : Parts → List BuildFault
over_limits parts = over_counts parts ++ flat_map (λ b. over_kind b.kind) parts.blocks ++ over_places parts

-- what is wrong with names: twice there, nowhere there, or there without a place
abbrev pub name_faults : Parts → List BuildFault
name_faults parts = duplicates parts ++ unknowns parts ++ missing_places parts

-- all faults, in the order in which they are answered
abbrev pub faults : Parts → List BuildFault
faults parts = no_blocks parts ++ over_limits parts ++ name_faults parts

-- the first of a list, if it has one
abbrev pub first : {X : Type 0} → List X → Option X
first [] = None
first (x ∷ xs) = Some x

-- the fault that is answered
abbrev pub first_refusal : Parts → Option BuildFault
first_refusal parts = first (faults parts)

-- what a test of these faults answers: the first of them, or that there is none
abbrev pub IsFirstOf : {X : Type 0} → List BuildFault → Result X BuildFault → Type 0
IsFirstOf fs result = MatchResult result (λ _. first fs ≡ None) (λ f. f ≢ fault.NoMemory → first fs ≡ Some f)

-- the parts have no fault
abbrev pub IsAdmitted : Parts → Type 0
IsAdmitted parts = first_refusal parts ≡ None

-- What admitted parts keep.

-- the sides, or the area, keep their limits
abbrev pub IsKindWithin : Kind → Type 0
IsKindWithin (kind.Hard w h) = (w ≤ 2 ^ 20) × (h ≤ 2 ^ 20)
IsKindWithin (kind.Soft area least most) = area ≤ 2 ^ 40

-- the place, if there is one, keeps the limit of coordinates
abbrev pub IsPlaceWithin : Option (ℤ × ℤ) → Type 0
IsPlaceWithin None = Unit {0}
IsPlaceWithin (Some at) = (nat_abs at.0 ≤ 2 ^ 20) × (nat_abs at.1 ≤ 2 ^ 20)

-- the parts keep all limits on numbers, sides, areas and coordinates
pub record KeepsLimits (parts : Parts) : Type 0 where
  pub some_block : 1 ≤ length parts.blocks
  pub few_blocks : length parts.blocks ≤ 320
  pub few_pads : length parts.pads ≤ 16384
  pub few_nets : length parts.nets ≤ 65536
  pub few_pins : sum_by (λ n. length n.pins) parts.nets ≤ 1048576
  pub kinds : All (λ b. IsKindWithin b.kind) parts.blocks
  pub places : IsTrue parts.pads_in → All (λ p. IsPlaceWithin p.place) parts.pads

-- What a reader keeps.

-- the block or pad of a pin that is given by its index is there
abbrev pub IsPinInRange : ℕ → ℕ → RawPin → Type 0
IsPinInRange blocks pads (raw.Named n) = Unit {0}
IsPinInRange blocks pads (raw.Block b) = b < blocks
IsPinInRange blocks pads (raw.Pad p) = p < pads

-- each pin that is given by an index stands for a block or a pad that is there
abbrev pub HasPinsInRange : Parts → Type 0
HasPinsInRange parts = All (λ n. All (IsPinInRange (length parts.blocks) (length parts.pads)) n.pins) parts.nets

-- the sides or the area are at least 1
abbrev pub IsSized : Kind → Type 0
IsSized (kind.Hard w h) = (0 < w) × (0 < h)
IsSized (kind.Soft area least most) = 0 < area

-- each block has sides, or an area, of at least 1
abbrev pub HasSizes : Parts → Type 0
HasSizes parts = All (λ b. IsSized b.kind) parts.blocks
