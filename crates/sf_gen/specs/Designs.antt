-- What the texts of a generated design stand for.
use Rattle.std.specs.Prelude.{ℕ, ◌*◌, List, [], ◌∷◌, true, map, Some, None, pos, if◌then◌else◌, codes}
use Rattle.sf_parts.specs.declared.raw.Kind.TheVariants as kind
use Rattle.sf_parts.specs.declared.raw.RawBlock.{RawBlock}
use Rattle.sf_parts.specs.declared.raw.Parts.{Parts}
use Rattle.sf_parts.specs.declared.raw.RawNet.{RawNet}
use Rattle.sf_parts.specs.declared.raw.RawPad.{RawPad}
use Rattle.sf_parts.specs.declared.raw.RawPin.TheVariants.{Named}
use Rattle.sf_gsrc.specs.declared.output.GsrcBlocks.{GsrcBlocks}
use Rattle.sf_gsrc.specs.declared.output.GsrcNets.{GsrcNets}
use Rattle.sf_gsrc.specs.declared.output.GsrcPlaces.{GsrcPlaces}
use Rattle.sf_gsrc.specs.declared.output.Place.{Place}
use Rattle.sf_gsrc.specs.Join.{numbered}
use Rattle.sf_gen.specs.declared.design.Kinds.{Kinds}
use Rattle.sf_gen.specs.declared.drawn.Ends.{Ends}
use Rattle.sf_gen.specs.declared.drawn.Size.{Size}
use Rattle.sf_gen.specs.Drawn.{sizes, ends}
use Rattle.sf_gen.specs.Texts.{indexed, block_name, is_soft, nets_pins, square}

-- the nets, whose pins are named
abbrev pub raw_nets : List Ends → List RawNet
raw_nets ends = map (λ pins. record { pins = map Named pins }) (nets_pins ends)

-- the nets that the text of the nets stands for
abbrev pub nets_out : List Ends → GsrcNets
nets_out ends = record { nets = raw_nets ends }

-- a soft block has aspects from 0.5 to 2, in millionths
abbrev pub raw_block : Kinds → ℕ → Size → RawBlock
raw_block kinds i s = record {
  name = block_name i;
  kind = if is_soft kinds i then kind.Soft (s.w * s.h) 500_000 2_000_000 else kind.Hard s.w s.h;
}

-- the blocks
abbrev pub raw_blocks : Kinds → List Size → List RawBlock
raw_blocks kinds sizes = indexed (raw_block kinds) 0 sizes

-- the names of the four pads
abbrev pub pad_list : List (List ℕ)
pad_list = codes "p0" ∷ codes "p1" ∷ codes "p2" ∷ codes "p3" ∷ []

-- what the text of the blocks stands for
abbrev pub blocks_out : Kinds → List Size → GsrcBlocks
blocks_out kinds sizes = record { blocks = raw_blocks kinds sizes; pads = pad_list }

-- a name at a place
abbrev pub place_at : List ℕ → ℕ → ℕ → Place
place_at name x y = record { name = name; x = pos x; y = pos y; size = None }

-- what the text of the places stands for
abbrev pub places_out : ℕ → GsrcPlaces
places_out n = record {
  places =
      place_at (codes "p0") 0 0 ∷ place_at (codes "p1") (square n) 0
      ∷ place_at (codes "p2") 0 (square n) ∷ place_at (codes "p3") (square n) (square n) ∷ [];
}

-- ---- the parts of the whole design

-- a pad at its place
abbrev pub raw_pad : List ℕ → ℕ → ℕ → RawPad
raw_pad name x y = record { name = name; place = Some (pos x, pos y) }

-- the four pads at their places
abbrev pub raw_pads : ℕ → List RawPad
raw_pads n =
    raw_pad (codes "p0") 0 0 ∷ raw_pad (codes "p1") (square n) 0
    ∷ raw_pad (codes "p2") 0 (square n) ∷ raw_pad (codes "p3") (square n) (square n) ∷ []

-- the parts of the design, with pins by name
abbrev pub named_parts : Kinds → ℕ → ℕ → Parts
named_parts kinds seed n = record {
  blocks = raw_blocks kinds (sizes seed n);
  pads = raw_pads n;
  nets = raw_nets (ends seed n);
  strangers = [];
  pads_in = true;
}

-- with numbered pins
abbrev pub parts_of : Kinds → ℕ → ℕ → Parts
parts_of kinds seed n = numbered (named_parts kinds seed n)
