-- What a text stands for, and its first fault if it stands for nothing.
use Rattle.std.specs.Prelude.{ℕ, Bool, true, ◌&&◌, ◌||◌, not, is_some, ◌==◌, List, [], ◌∷◌, ◌++◌, map, Option, Some, None, Result, Ok, Err, if◌then◌else◌, slice_get}
use Rattle.sf_parts.specs.declared.raw.RawBlock.{RawBlock}
use Rattle.sf_parts.specs.declared.raw.Kind.TheVariants as kinds
use Rattle.sf_parts.specs.declared.raw.Parts.{Parts}
use Rattle.sf_yal.specs.declared.fault.YalFault.{YalFault}
use Rattle.sf_yal.specs.declared.fault.YalFault.TheVariants as faults
use Rattle.sf_lex.specs.declared.vertices.BoxSize.{BoxSize}
use Rattle.sf_yal.specs.Statements.{statements_of, is_ended, last_line}
use Rattle.sf_yal.specs.Box.{◌>>=◌}
use Rattle.sf_names.specs.Names.{index_of}
use Rattle.sf_yal.specs.Instances.{Instance}
use Rattle.sf_yal.specs.Nets.{nets_of}
use Rattle.sf_yal.specs.Reading.{Reading, start, after_statements}

-- ---- blocks

-- the box at a place, if there is one
abbrev pub size_or_none : Option (Option BoxSize) → Option BoxSize
size_or_none None = None
size_or_none (Some size) = size

-- the box of the module at a place, if it has one
abbrev pub size_at : List (Option BoxSize) → ℕ → Option BoxSize
size_at sizes k = size_or_none (slice_get sizes k)

-- an instance with the box of its module
abbrev pub boxed : Instance → Option BoxSize → Result RawBlock YalFault
boxed i None = Err (faults.BadStatement i.line)
boxed i (Some size) = if (size.w == 0) || (size.h == 0) then Err (faults.ZeroSide i.line)
    else Ok (record { name = i.name; kind = kinds.Hard size.w size.h })

-- the module is none of the text, or the parent
abbrev pub unknown : Instance → Result RawBlock YalFault
unknown i = Err (faults.UnknownModule i.line i.module_name)

-- the block of an instance whose module stands at this place
abbrev pub block_by : List (Option BoxSize) → ℕ → Instance → Option ℕ → Result RawBlock YalFault
block_by sizes parent i None = unknown i
block_by sizes parent i (Some k) = if k == parent then unknown i else boxed i (size_at sizes k)

-- the block of an instance: its module is one of the text and not the parent
unfoldable pub block_of : List (List ℕ) → List (Option BoxSize) → ℕ → Instance → Result RawBlock YalFault
block_of names sizes parent i = block_by sizes parent i (index_of i.module_name names)

-- the blocks of the instances in order, behind earlier ones
unfoldable pub blocks_from : List (List ℕ) → List (Option BoxSize) → ℕ → List RawBlock → List Instance → Result (List RawBlock) YalFault
blocks_from names sizes parent earlier [] = Ok earlier
blocks_from names sizes parent earlier (i ∷ more) = do
  b ← block_of names sizes parent i
  blocks_from names sizes parent (earlier ++ b ∷ []) more

-- ---- the whole text

-- the parts with these blocks
abbrev pub parts_with : Reading → List RawBlock → Parts
parts_with r blocks = record { blocks = blocks; pads = r.pads; nets = nets_of (map (λ i. i.signals) r.instances) r.pad_names; strangers = []; pads_in = true }

-- the parts, where there is a parent
abbrev pub parts_by : Reading → Option ℕ → Result Parts YalFault
parts_by r None = Err faults.NoParent
parts_by r (Some parent) = blocks_from r.names r.sizes parent [] r.instances >>= λ blocks. Ok (parts_with r blocks)

-- at the end no comment, no statement, no list and no module is open
unfoldable pub parts_read : ℕ → Bool → Reading → Result Parts YalFault
parts_read last ended r = if ended && not (is_some r.current) then parts_by r r.parent else Err (faults.Truncated last)

-- what is read of a text, statement by statement
unfoldable pub yal_read : ℕ → List ℕ → Result Parts YalFault
yal_read scale text = after_statements scale start (statements_of text) >>= parts_read (last_line text) (is_ended text)
