-- The GSRC pl text of a placement.
use Rattle.std.specs.Prelude.{ℕ, ◌==◌, ℤ, Bool, false, List, [], ◌++◌, length, if◌then◌else◌, codes}
use Rattle.std.specs.List.{flat_map, zip, list_any, range_with_len}
use Rattle.sf_model.specs.declared.design.Design.{Design}
use Rattle.sf_model.specs.declared.parts.Block.{Block}
use Rattle.sf_model.specs.declared.parts.Net.{Net}
use Rattle.sf_model.specs.declared.parts.Pad.{Pad}
use Rattle.sf_model.specs.declared.parts.Pin.{Pin}
use Rattle.sf_model.specs.declared.parts.Pin.TheVariants as pin
use Rattle.sf_model.specs.declared.plan.Spot.{Spot}
use Rattle.sf_model.specs.Wire.{pad_at}
use Rattle.sf_pl_writer.specs.Length.{length_text, signed_text}

-- ` x y`
abbrev pub place_text : ℕ → ℤ → ℤ → List ℕ
place_text scale x y = codes " " ++ signed_text scale x ++ codes " " ++ signed_text scale y

-- ` DIMS = (w, h) : N` and LF
abbrev pub size_text : ℕ → ℕ → ℕ → List ℕ
size_text scale w h = codes " DIMS = (" ++ length_text scale w ++ codes ", " ++ length_text scale h ++ codes ") : N\n"

-- name x y DIMS = (w, h) : N
abbrev pub block_line : ℕ → Block → Spot → List ℕ
block_line scale block s = block.name ++ place_text scale s.x s.y ++ size_text scale s.w s.h

-- name x y
abbrev pub pad_line : ℕ → Pad → List ℕ
pad_line scale pad = pad.name ++ place_text scale pad.x pad.y ++ codes "\n"

-- whether a pin is of the pad
abbrev pub is_pad : ℕ → Pin → Bool
is_pad p (pin.Block b) = false
is_pad p (pin.Pad q) = q == p

-- whether the pad stands in one of the nets
abbrev pub stands_in : List Net → ℕ → Bool
stands_in nets p = list_any (λ net. list_any (is_pad p) net.pins) nets

-- one line for each block, by number
abbrev pub block_lines : ℕ → List Block → List Spot → List ℕ
block_lines scale blocks spots = flat_map (λ p. block_line scale p.0 p.1) (zip blocks spots)

-- the line of a pad that stands in a net, and nothing of one that doesn't
abbrev pub pad_lines_of : ℕ → Design → ℕ → List ℕ
pad_lines_of scale design p = if stands_in design.nets p then pad_line scale (pad_at design p) else []

-- one line for each pad in a net, by number
abbrev pub pad_lines : ℕ → Design → List ℕ
pad_lines scale design = flat_map (pad_lines_of scale design) (range_with_len 0 (length design.pads))

-- the whole text
abbrev pub pl_text : Design → List Spot → ℕ → List ℕ
pl_text design spots scale = codes "UCLA pl 1.0\n" ++ block_lines scale design.blocks spots ++ pad_lines scale design
