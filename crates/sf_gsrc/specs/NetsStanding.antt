-- A nets file and what it stands for, as a relation on its lines.
use Rattle.std.specs.Prelude.{◌≡◌, ℕ, true, List, [], ◌∷◌, length, map, Option, Some, None, Ok, codes}
use Rattle.std.specs.List.{AllZip, filter_map, flat_map}
use Rattle.sf_lex.specs.Scan.{Line}
use Rattle.sf_lex.specs.Gap.{first_word}
use Rattle.sf_lex.specs.declared.field.Gap.TheVariants.{Blanks}
use Rattle.sf_parts.specs.declared.raw.RawNet.{RawNet}
use Rattle.sf_parts.specs.declared.raw.RawPin.TheVariants.{Named}
use Rattle.sf_gsrc.specs.declared.net_words.NetWord.{NetWord}
use Rattle.sf_gsrc.specs.declared.net_words.NetWord.TheVariants as net_words
use Rattle.sf_gsrc.specs.declared.output.GsrcNets.{GsrcNets}
use Rattle.sf_gsrc.specs.Keywords.{net_word_by}
use Rattle.sf_gsrc.specs.Blocks.{content_of, is_title}
use Rattle.sf_gsrc.specs.Nets.{NetSaid, NetsAre, PinsAre, DegreeIs, PinIs, number_of_line}

-- the line has a form, and says this
abbrev pub SaysNetBy : Line → NetSaid → Option NetWord → Type 0
SaysNetBy line said (Some net_words.Nets) = (n : ℕ) × (number_of_line line ≡ Ok n) × (said ≡ NetsAre n)
SaysNetBy line said (Some net_words.Pins) = (n : ℕ) × (number_of_line line ≡ Ok n) × (said ≡ PinsAre n)
SaysNetBy line said (Some net_words.Degree) = (n : ℕ) × (number_of_line line ≡ Ok n) × (said ≡ DegreeIs n)
SaysNetBy line said None = said ≡ PinIs (first_word Blanks line.bytes)

-- what a line says
abbrev pub SaysNet : Line → NetSaid → Type 0
SaysNet line said = SaysNetBy line said (net_word_by line.bytes)

-- how many nets a line says that there are
abbrev pub nets_count : NetSaid → Option ℕ
nets_count (NetsAre n) = Some n
nets_count (PinsAre n) = None
nets_count (DegreeIs d) = None
nets_count (PinIs name) = None

-- what a line says of a net
abbrev pub net_part : NetSaid → Option NetSaid
net_part (NetsAre n) = None
net_part (PinsAre n) = None
net_part (DegreeIs d) = Some (DegreeIs d)
net_part (PinIs name) = Some (PinIs name)

-- a net is its degree, and then as many pins
abbrev pub net_lines : List (List ℕ) → List NetSaid
net_lines names = DegreeIs (length names) ∷ map PinIs names

-- the net of these names
abbrev pub net_of : List (List ℕ) → RawNet
net_of names = record { pins = map Named names }

-- behind the title each line says its part, and the numbers agree with what was found
pub record NetsStandFor (text : List ℕ) (out : GsrcNets) : Type 0 where
  pub title : Line
  pub others : List Line
  pub said : List NetSaid
  pub names : List (List (List ℕ))
  pub lines_are : content_of text ≡ title ∷ others
  pub titled : is_title (codes "nets") title.bytes ≡ true
  pub each : AllZip SaysNet others said
  pub lines_of_nets : filter_map net_part said ≡ flat_map net_lines names
  pub nets : out.nets ≡ map net_of names
  pub count : filter_map nets_count said ≡ length out.nets ∷ []
