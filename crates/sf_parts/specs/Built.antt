-- The design that parts become with a list of shapes for each block.
use Rattle.std.specs.Prelude.{◌≡◌, ℕ, ◌+◌, ◌<◌, ◌≤◌, ◌↔◌, List, [], ◌∷◌, length, take, map, zip, filter_map, count_by, All, AllPairs, Contains, Option, Some, None, is_some, if◌then◌else◌}
use Rattle.std.specs.Option.{option_map}
use Rattle.sf_parts.specs.Admitted.{block_of, pad_of}
use Rattle.sf_model.specs.Limits.{IsSide, IsShapeChoice, pin_order}
use Rattle.sf_model.specs.Paths.{no_paths}
use Rattle.sf_model.specs.declared.design.Design.{Design}
use Rattle.sf_model.specs.declared.parts.Block.{Block}
use Rattle.sf_model.specs.declared.parts.Net.{Net}
use Rattle.sf_model.specs.declared.parts.Outline.{Outline}
use Rattle.sf_model.specs.declared.parts.Pad.{Pad}
use Rattle.sf_model.specs.declared.parts.Pin.{Pin}
use Rattle.sf_model.specs.declared.parts.Pin.TheVariants as pin
use Rattle.sf_model.specs.declared.parts.Shape.{Shape}
use Rattle.sf_model.specs.declared.parts.Weights.{Weights}
use Rattle.sf_parts.specs.declared.raw.Parts.{Parts}
use Rattle.sf_parts.specs.declared.raw.RawBlock.{RawBlock}
use Rattle.sf_parts.specs.declared.raw.RawNet.{RawNet}
use Rattle.sf_parts.specs.declared.raw.RawPad.{RawPad}
use Rattle.sf_parts.specs.declared.raw.RawPin.{RawPin}

-- one list for each block
pub record HasShapeChoices (blocks : List RawBlock) (lists : List (List Shape)) : Type 0 where
  pub one_each : length lists ≡ length blocks
  pub fine : All IsShapeChoice lists

-- the name of the first block that has no shape
abbrev pub first_shapeless : List RawBlock → List (List Shape) → Option (List ℕ)
first_shapeless [] lists = None
first_shapeless (b ∷ bs) [] = None
first_shapeless (b ∷ bs) ([] ∷ ls) = Some b.name
first_shapeless (b ∷ bs) ((s ∷ ss) ∷ ls) = first_shapeless bs ls

-- both sides of the outline keep the limit of sides
abbrev pub IsOutline : Outline → Type 0
IsOutline outline = IsSide outline.w × IsSide outline.h

-- area or wire counts
abbrev pub IsWeighted : Weights → Type 0
IsWeighted weights = 1 ≤ weights.area + weights.wire

-- each block with its list
abbrev pub design_blocks : List RawBlock → List (List Shape) → List Block
design_blocks blocks lists = map (λ b. record { name = b.0.name; shapes = b.1 }) (zip blocks lists)

-- a pad at its place
abbrev pub placed_pad : RawPad → Option Pad
placed_pad p = option_map (λ at. record { name = p.name; x = at.0; y = at.1 }) p.place

-- the pads that have a place, or none
abbrev pub design_pads : Parts → List Pad
design_pads parts = if parts.pads_in then filter_map placed_pad parts.pads else []

-- the pin of the pad at index i, by its number among the pads that have a place
abbrev pub pad_pin : Parts → ℕ → Option Pin
pad_pin parts i = if parts.pads_in then Some (pin.Pad (count_by (λ p. is_some p.place) (take i parts.pads))) else None

-- the pin of the block at this index, or else of the pad at that one
abbrev pub pin_at : Parts → Option ℕ → Option ℕ → Option Pin
pin_at parts (Some b) pad = Some (pin.Block b)
pin_at parts None (Some p) = pad_pin parts p
pin_at parts None None = None

-- what a pin as read stands for, and nothing where it is left out
abbrev pub pin_of : Parts → RawPin → Option Pin
pin_of parts p = pin_at parts (block_of parts.blocks p) (pad_of parts.pads p)

-- what the pins as read stand for, in their order
abbrev pub named_pins : Parts → List RawPin → List Pin
named_pins parts pins = filter_map (pin_of parts) pins

-- the set of the pins of a net as read
pub record IsNetOf (parts : Parts) (read : RawNet) (net : Net) : Type 0 where
  pub ascending : AllPairs (λ p q. pin_order p < pin_order q) net.pins
  pub same : (p : Pin) → Contains net.pins p ↔ Contains (named_pins parts read.pins) p

-- one weight for each net
abbrev pub HasNetWeights : Parts → List ℕ → Type 0
HasNetWeights parts net_weights = length net_weights ≡ length parts.nets

-- the design of these parts with these lists: a block, and a net with its weight, for each one read, in their order. It knows nothing of its area, and has no paths
pub record IsDesignOf (parts : Parts) (lists : List (List Shape)) (outline : Outline) (weights : Weights) (net_weights : List ℕ) (design : Design) : Type 0 where
  pub block_count : length design.blocks ≡ length parts.blocks
  pub blocks : design.blocks ≡ design_blocks parts.blocks lists
  pub pads : design.pads ≡ design_pads parts
  pub net_count : length design.nets ≡ length parts.nets
  pub nets : All (λ n. IsNetOf parts n.0 n.1) (zip parts.nets design.nets)
  pub outline_is : design.outline ≡ outline
  pub weights_are : design.weights ≡ weights
  pub net_weights_are : map (λ n. n.weight) design.nets ≡ net_weights
  pub no_floor : design.area_floor ≡ 0
  pub unrouted : design.routes.paths ≡ no_paths
