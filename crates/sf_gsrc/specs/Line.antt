-- What a line of a block file says by itself, and its fault if it says nothing.
use Rattle.std.specs.Prelude.{ℕ, ◌*◌, ◌||◌, ◌==◌, nat_lt, List, [], ◌∷◌, length, Option, Some, None, Result, Ok, Err, if◌then◌else◌, ℤ}
use Rattle.sf_lex.specs.Results.{◌>>=◌, map_err}
use Rattle.sf_lex.specs.Vertices.{box_read}
use Rattle.sf_lex.specs.declared.vertices.BoxSize.{BoxSize}
use Rattle.sf_lex.specs.declared.vertices.VertexFault.{VertexFault}
use Rattle.sf_lex.specs.declared.vertices.VertexFault.TheVariants as vertices
use Rattle.sf_lex.specs.Text.{words}
use Rattle.sf_lex.specs.Number.{decimal_read, area_read, signed_read}
use Rattle.sf_lex.specs.declared.number.NumberFault.{NumberFault}
use Rattle.sf_parts.specs.declared.raw.RawBlock.{RawBlock}
use Rattle.sf_parts.specs.declared.raw.Kind.TheVariants as kinds
use Rattle.sf_gsrc.specs.declared.fault.LineFault.{LineFault}
use Rattle.sf_gsrc.specs.declared.fault.LineFault.TheVariants.{BadLine, BadNumber, ZeroSide}
use Rattle.sf_lex.specs.declared.field.Gap.TheVariants.{Blanks, Points}
use Rattle.sf_gsrc.specs.declared.keywords.Counted.{Counted}
use Rattle.sf_gsrc.specs.declared.keywords.Form.{Form}
use Rattle.sf_gsrc.specs.declared.keywords.Form.TheVariants as forms
use Rattle.sf_lex.specs.Gap.{is_gap, first_word, after_word}
use Rattle.sf_gsrc.specs.Keywords.{count_word, counted_of, form_of}

-- a block or a pad
pub data Item : Type 0 where
  BlockIs : RawBlock → Item
  PadIs : List ℕ → Item

-- a number's fault is its line's
abbrev pub number_in : {A : Type 0} → Result A NumberFault → Result A LineFault
number_in read = map_err BadNumber read

-- a count in a word
abbrev pub count_in_word : List ℕ → Result ℕ LineFault
count_in_word word = number_in (decimal_read 1 9_000_000_000_000_000 word)

-- an aspect in a word, in millionths
abbrev pub aspect_in_word : List ℕ → Result ℕ LineFault
aspect_in_word word = number_in (decimal_read 1_000_000 1_000_000_000_000 word)

-- a soft block's area in a word, in squares of whole units of the scale, rounded up
abbrev pub area_in_word : ℕ → List ℕ → Result ℕ LineFault
area_in_word scale word = number_in (area_read (scale * scale) 9_000_000_000_000_000 word)

-- a coordinate in a word, in whole units of the scale
abbrev pub coordinate_in_word : ℕ → List ℕ → Result ℤ LineFault
coordinate_in_word scale word = number_in (signed_read scale 9_000_000_000_000_000 word)

-- the number of a count line, behind its count word
unfoldable pub count_said : List (List ℕ) → Result ℕ LineFault
count_said [] = Err BadLine
count_said (word ∷ []) = Err BadLine
count_said (word ∷ number ∷ more) = count_in_word number

-- what follows `name softrectangular`
unfoldable pub soft_said : ℕ → List ℕ → List (List ℕ) → Result Item LineFault
soft_said scale name [] = Err BadLine
soft_said scale name (area ∷ []) = Err BadLine
soft_said scale name (area ∷ min ∷ []) = Err BadLine
soft_said scale name (area ∷ min ∷ max ∷ more) = do
  a ← area_in_word scale area
  low ← aspect_in_word min
  high ← aspect_in_word max
  if a == 0 then Err ZeroSide else Ok (BlockIs (record { name = name; kind = kinds.Soft a low high }))

-- a missing word of a vertex is a line that says nothing, and a number's fault is its line's
abbrev pub vertex_fault : VertexFault → LineFault
vertex_fault vertices.Missing = BadLine
vertex_fault (vertices.BadNumber fault) = BadNumber fault

-- a block with these sides
abbrev pub box_said : List ℕ → BoxSize → Result Item LineFault
box_said name size = if (size.w == 0) || (size.h == 0) then Err ZeroSide else Ok (BlockIs (record { name = name; kind = kinds.Hard size.w size.h }))

-- what follows `name hardrectilinear`
unfoldable pub hard_said : ℕ → List ℕ → List (List ℕ) → Result Item LineFault
hard_said scale name [] = Err BadLine
hard_said scale name (count ∷ places) = do
  k ← count_in_word count
  if (k == 0) || nat_lt (length places) (2 * k) then Err BadLine
      else (map_err vertex_fault (box_read scale k places) >>= box_said name)

-- what a line says by the word behind its name
abbrev pub form_said : ℕ → List ℕ → List ℕ → Option Form → Result Item LineFault
form_said scale name rest None = Err BadLine
form_said scale name rest (Some forms.Soft) = soft_said scale name (words (is_gap Blanks) rest)
form_said scale name rest (Some forms.Hard) = hard_said scale name (words (is_gap Points) rest)
form_said scale name rest (Some forms.Terminal) = Ok (PadIs name)

-- a line that is no count line: a name, a word that says what it names, and the rest
unfoldable pub plain_said : ℕ → List ℕ → Result Item LineFault
plain_said scale line = form_said scale (first_word Blanks line) (after_word Blanks (after_word Blanks line)) (form_of (first_word Blanks (after_word Blanks line)))

-- what a line counts, if it is a count line
abbrev pub counted_by : List ℕ → Option Counted
counted_by line = counted_of (count_word line)
