-- Blocks, nets and places joined to the parts of a design.
use Rattle.std.specs.Prelude.{◌≡◌, ℕ, ℤ, Bool, true, false, not, ◌&&◌, ◌||◌, ◌^◌, nat_lt, List, [], ◌∷◌, length, map, filter, find, count_by, Option, Some, None, Result, Ok, Err, if◌then◌else◌}
use Rattle.std.specs.List.{list_any}
use Rattle.std.specs.Str.{bytes_eq}
use Rattle.sf_parts.specs.declared.raw.RawBlock.{RawBlock}
use Rattle.sf_parts.specs.declared.raw.RawPad.{RawPad}
use Rattle.sf_parts.specs.declared.raw.RawNet.{RawNet}
use Rattle.sf_parts.specs.declared.raw.RawPin.{RawPin}
use Rattle.sf_parts.specs.declared.raw.RawPin.TheVariants as raw
use Rattle.sf_parts.specs.declared.raw.Parts.{Parts}
use Rattle.sf_parts.specs.Admitted.{block_of, pad_of}
use Rattle.sf_gsrc.specs.declared.output.GsrcBlocks.{GsrcBlocks}
use Rattle.sf_gsrc.specs.declared.output.GsrcNets.{GsrcNets}
use Rattle.sf_gsrc.specs.declared.output.GsrcPlaces.{GsrcPlaces}
use Rattle.sf_gsrc.specs.declared.output.Place.{Place}
use Rattle.sf_gsrc.specs.declared.fault.JoinFault.{JoinFault}
use Rattle.sf_gsrc.specs.declared.fault.JoinFault.TheVariants as faults

-- the names that are placed
abbrev pub names_of : List Place → List (List ℕ)
names_of places = map (λ p. p.name) places

-- the name is one of these
abbrev pub has_name : List (List ℕ) → List ℕ → Bool
has_name names name = list_any (λ n. bytes_eq n name) names

-- the name stands twice or more often among these
abbrev pub has_like : List (List ℕ) → List ℕ → Bool
has_like names name = nat_lt 1 (count_by (λ n. bytes_eq n name) names)

-- the first name that has a like anywhere in the list
abbrev pub first_twice : List (List ℕ) → Option (List ℕ)
first_twice names = find (has_like names) names

-- where the first line of that name places it
abbrev pub place_of : List Place → List ℕ → Option (ℤ × ℤ)
place_of [] name = None
place_of (p ∷ places) name = if bytes_eq p.name name then Some (p.x, p.y) else place_of places name

-- each pad gets the place that its name has
abbrev pub pads_at : List Place → List (List ℕ) → List RawPad
pads_at places pads = map (λ name. record { name = name; place = place_of places name }) pads

-- a block or a pad has the name
abbrev pub is_known : List RawBlock → List (List ℕ) → List ℕ → Bool
is_known blocks pads name = has_name (map (λ b. b.name) blocks) name || has_name pads name

-- the names that are placed and that no block and no pad has, in the order of the lines
abbrev pub strangers_of : List RawBlock → List (List ℕ) → List Place → List (List ℕ)
strangers_of blocks pads places = filter (λ name. not (is_known blocks pads name)) (names_of places)

-- without a nets file there are no nets
abbrev pub nets_in : Option GsrcNets → List RawNet
nets_in None = []
nets_in (Some out) = out.nets

-- the parts with a pl file
abbrev pub placed_parts : GsrcBlocks → List RawNet → List Place → Parts
placed_parts out nets places = record {
  blocks = out.blocks;
  pads = pads_at places out.pads;
  nets = nets;
  strangers = strangers_of out.blocks out.pads places;
  pads_in = true;
}

-- the parts without one: no pad has a place
abbrev pub unplaced_parts : GsrcBlocks → List RawNet → Parts
unplaced_parts out nets = record {
  blocks = out.blocks;
  pads = pads_at [] out.pads;
  nets = nets;
  strangers = [];
  pads_in = false;
}

-- a pin by the number of its block or of its pad, where it is of one of them and not of both
abbrev pub by_number : Option ℕ → Option ℕ → RawPin → RawPin
by_number (Some b) None pin = raw.Block b
by_number None (Some p) pin = raw.Pad p
by_number (Some b) (Some p) pin = pin
by_number None None pin = pin

-- a pin by the number of its block or pad
abbrev pub numbered_pin : List RawBlock → List RawPad → RawPin → RawPin
numbered_pin blocks pads pin = by_number (block_of blocks pin) (pad_of pads pin) pin

-- a net of such pins
abbrev pub numbered_net : List RawBlock → List RawPad → RawNet → RawNet
numbered_net blocks pads net = record { pins = map (numbered_pin blocks pads) net.pins }

-- the numbers of pins tell as many blocks and as many pads apart
abbrev pub has_numbers : List RawBlock → List RawPad → Bool
has_numbers blocks pads = nat_lt (length blocks) (2 ^ 32) && nat_lt (length pads) (2 ^ 32)

-- nets of such pins, where the numbers tell all blocks and pads apart
abbrev pub numbered_nets : List RawBlock → List RawPad → List RawNet → List RawNet
numbered_nets blocks pads nets = if has_numbers blocks pads then map (numbered_net blocks pads) nets else nets

-- the parts with numbered pins
abbrev pub numbered : Parts → Parts
numbered parts = record parts { nets = numbered_nets parts.blocks parts.pads parts.nets }

-- the parts, unless a name is placed twice
abbrev pub placed_once : Option (List ℕ) → Parts → Result Parts JoinFault
placed_once None parts = Ok parts
placed_once (Some name) parts = Err (faults.PlacedTwice name)

-- what the files are joined to
abbrev pub joined : GsrcBlocks → Option GsrcNets → Option GsrcPlaces → Result Parts JoinFault
joined out nets None = Ok (numbered (unplaced_parts out (nets_in nets)))
joined out nets (Some places) = placed_once (first_twice (names_of places.places)) (numbered (placed_parts out (nets_in nets) places.places))

-- what a function returned is this, unless memory ran out
abbrev pub Joins : {X : Type 0} → Result X JoinFault → Result X JoinFault → Type 0
Joins (Ok x) wanted = wanted ≡ Ok x
Joins (Err faults.NoMemory) wanted = Unit {0}
Joins (Err (faults.PlacedTwice name)) wanted = wanted ≡ Err (faults.PlacedTwice name)
