-- A block file and what it stands for, as a relation on its lines.
use Rattle.std.specs.Prelude.{◌≡◌, ℕ, true, not, List, [], ◌∷◌, length, Option, Some, None, Ok, codes, count_by}
use Rattle.std.specs.List.{AllZip, filter_map}
use Rattle.sf_lex.specs.Text.{words}
use Rattle.sf_lex.specs.Scan.{Line}
use Rattle.sf_lex.specs.declared.field.Gap.TheVariants.{Colons}
use Rattle.sf_gsrc.specs.declared.keywords.Counted.{Counted}
use Rattle.sf_gsrc.specs.declared.keywords.Counted.TheVariants as counts
use Rattle.sf_gsrc.specs.declared.count.Count.{Count}
use Rattle.sf_gsrc.specs.declared.output.GsrcBlocks.{GsrcBlocks}
use Rattle.sf_lex.specs.Gap.{is_gap}
use Rattle.sf_gsrc.specs.Line.{Item, counted_by, count_said, plain_said}
use Rattle.sf_gsrc.specs.Blocks.{content_of, is_title, Entry, Said, CountIs, ItemIs, count_at, blocks_in, pads_in, is_soft}

-- the line has a form, and says this
abbrev pub SaysBy : ℕ → Line → Said → Option Counted → Type 0
SaysBy scale line said (Some which) = (n : ℕ) × (count_said (words (is_gap Colons) line.bytes) ≡ Ok n) × (said ≡ CountIs which n)
SaysBy scale line said None = (item : Item) × (plain_said scale line.bytes ≡ Ok item) × (said ≡ ItemIs item)

-- a line says its part
abbrev pub SaysEntry : ℕ → Line → Entry → Type 0
SaysEntry scale line entry = (entry.number ≡ line.number) × SaysBy scale line entry.said (counted_by line.bytes)

-- the counts of a kind
abbrev pub counts_of : Counted → List Entry → List Count
counts_of which entries = filter_map (λ e. count_at which e.number e.said) entries

-- one count of the kind stands there, and it says what was found
pub record StandsOnce (which : Counted) (entries : List Entry) (found : ℕ) : Type 0 where
  pub line : ℕ
  pub once : counts_of which entries ≡ record { line = line; said = found } ∷ []

-- behind the title each line says its part, each count stands once and agrees with what was found
pub record StandsFor (scale : ℕ) (text : List ℕ) (out : GsrcBlocks) : Type 0 where
  pub title : Line
  pub others : List Line
  pub entries : List Entry
  pub lines_are : content_of text ≡ title ∷ others
  pub titled : is_title (codes "blocks") title.bytes ≡ true
  pub each : AllZip (SaysEntry scale) others entries
  pub soft : StandsOnce counts.Soft entries (count_by is_soft out.blocks)
  pub hard : StandsOnce counts.Hard entries (count_by (λ b. not (is_soft b)) out.blocks)
  pub terminals : StandsOnce counts.Terminals entries (length out.pads)
  pub blocks : out.blocks ≡ blocks_in entries
  pub pads : out.pads ≡ pads_in entries
