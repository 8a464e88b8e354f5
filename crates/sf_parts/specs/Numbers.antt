-- Pads by their number among those that have a place, pins by their order, and nets as they are made.
use Rattle.std.specs.Prelude.{◌≡◌, ℕ, ◌<◌, ◌≤◌, ◌^◌, Bool, ◌==◌, List, length, take, count_by, is_some, slice_index, All}
use Rattle.sf_parts.specs.Built.{IsNetOf, design_pads}
use Rattle.sf_model.specs.Limits.{pin_order, IsThere}
use Rattle.sf_model.specs.declared.parts.Net.{Net}
use Rattle.sf_model.specs.declared.parts.Pin.{Pin}
use Rattle.sf_parts.specs.declared.raw.Parts.{Parts}
use Rattle.sf_parts.specs.declared.raw.RawNet.{RawNet}
use Rattle.sf_parts.specs.declared.raw.RawPad.{RawPad}

-- for each pad how many with a place stand before it
pub record AreNumbersOf (numbers : List ℕ) (pads : List RawPad) : Type 0 where
  pub len : length numbers ≡ length pads
  pub counts : (i : ℕ) → i < length pads → slice_index numbers i ≡ count_by (λ p. is_some p.place) (take i pads)

-- the pins are the same, by their order
abbrev pub same_pin : Pin → Pin → Bool
same_pin p q = pin_order p == pin_order q

-- the set of the pins of a net as read, of no more pins than were read, with a weight of one byte
pub record IsNetMade (parts : Parts) (read : RawNet) (net : Net) : Type 0 where
  pub set : IsNetOf parts read net
  pub few : length net.pins ≤ length read.pins
  pub there : All (IsThere (length parts.blocks) (length (design_pads parts))) net.pins
  pub light : net.weight < 2 ^ 8
