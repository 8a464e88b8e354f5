-- What of a design's files has no place in the design.
use Rattle.std.specs.Prelude.{◌≡◌, ℕ, List, length}
use Rattle.sf_gsrc.specs.declared.output.GsrcBlocks.{GsrcBlocks}
use Rattle.sf_gsrc.specs.Standing.{StandsFor}
use Rattle.sf_yal.specs.Losses.{losses_of}
use Rattle.sf_options.specs.Options.{Input, gsrc, yal}
use Rattle.sf_designs.specs.declared.losses.Losses.{Losses}
use Rattle.sf_designs.specs.declared.losses.Losses.TheVariants.{Pads, Yal}

-- the text is a blocks file with so many pads
abbrev pub HasPads : ℕ → List ℕ → ℕ → Type 0
HasPads scale text count = (out : GsrcBlocks) × StandsFor scale text out × (count ≡ length out.pads)

-- what is lost of the blocks file, or of the YAL file
abbrev pub AreLosses : Input → ℕ → List ℕ → Losses → Type 0
AreLosses (gsrc blocks nets pl) scale text (Pads count) = HasPads scale text count
AreLosses (gsrc blocks nets pl) scale text (Yal losses) = ⊥
AreLosses (yal file) scale text (Pads count) = ⊥
AreLosses (yal file) scale text (Yal losses) = losses ≡ losses_of scale text
