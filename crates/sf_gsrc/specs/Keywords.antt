-- The words that have a meaning in a line.
use Rattle.std.specs.Prelude.{ℕ, Bool, ◌==◌, List, [], ◌∷◌, Option, Some, None, if◌then◌else◌, codes}
use Rattle.std.specs.List.{before_first}
use Rattle.std.specs.Str.{bytes_eq}
use Rattle.sf_lex.specs.Gap.{first_word}
use Rattle.sf_lex.specs.declared.field.Gap.TheVariants.{Blanks}
use Rattle.sf_gsrc.specs.declared.keywords.Counted.{Counted}
use Rattle.sf_gsrc.specs.declared.keywords.Counted.TheVariants as counts
use Rattle.sf_gsrc.specs.declared.net_words.NetWord.{NetWord}
use Rattle.sf_gsrc.specs.declared.net_words.NetWord.TheVariants as net_words
use Rattle.sf_gsrc.specs.declared.keywords.Form.{Form}
use Rattle.sf_gsrc.specs.declared.keywords.Form.TheVariants as forms

-- the colon
abbrev pub is_colon : ℕ → Bool
is_colon b = b == 58

-- the first word of a line, up to a colon
abbrev pub count_word : List ℕ → List ℕ
count_word line = before_first is_colon (first_word Blanks line)

-- what a word means by the first row that has it
abbrev pub meaning_in : {M : Type 0} → List (List ℕ × M) → List ℕ → Option M
meaning_in [] word = None
meaning_in (row ∷ rows) word = if bytes_eq word row.0 then Some row.1 else meaning_in rows word

-- what a count word counts
unfoldable pub counted_of : List ℕ → Option Counted
counted_of = meaning_in ((codes "NumSoftRectangularBlocks", counts.Soft) ∷ (codes "NumHardRectilinearBlocks", counts.Hard) ∷ (codes "NumTerminals", counts.Terminals) ∷ [])

-- what the second word of a line says
unfoldable pub form_of : List ℕ → Option Form
form_of = meaning_in ((codes "softrectangular", forms.Soft) ∷ (codes "hardrectilinear", forms.Hard) ∷ (codes "terminal", forms.Terminal) ∷ [])

-- the count words of a nets file
unfoldable pub net_word_of : List ℕ → Option NetWord
net_word_of = meaning_in ((codes "NumNets", net_words.Nets) ∷ (codes "NumPins", net_words.Pins) ∷ (codes "NetDegree", net_words.Degree) ∷ [])

-- what a word of a nets file says
abbrev pub net_word_by : List ℕ → Option NetWord
net_word_by line = net_word_of (count_word line)
