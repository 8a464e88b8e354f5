-- The nets of a design by number, and their pins.
use Rattle.std.specs.Prelude.{ℕ, [], length, All, slice_index_or}
use Rattle.sf_model.specs.declared.design.Design.{Design}
use Rattle.sf_model.specs.declared.parts.Net.{Net}
use Rattle.sf_model.specs.Legal.{block_count}
use Rattle.sf_model.specs.Limits.{IsThere}

-- the net of a number, which has no pins past the last
abbrev pub net_at : Design → ℕ → Net
net_at design n = slice_index_or design.nets n (record { pins = []; weight = 0 })

-- the pins of the net are blocks and pads of the design
abbrev pub HasPins : Design → Net → Type 0
HasPins design net = All (IsThere (block_count design) (length design.pads)) net.pins
