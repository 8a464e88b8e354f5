-- What a line of a pl file says by itself, and its fault if it says nothing.
use Rattle.std.specs.Prelude.{ℕ, ◌||◌, ◌==◌, List, [], ◌∷◌, Option, Some, None, Result, Ok, Err, if◌then◌else◌, codes}
use Rattle.std.specs.Str.{bytes_eq}
use Rattle.sf_lex.specs.Text.{words, is_not_empty}
use Rattle.sf_lex.specs.Number.{decimal_read}
use Rattle.sf_lex.specs.Gap.{is_gap, first_word, after_word}
use Rattle.sf_lex.specs.declared.field.Gap.TheVariants.{Blanks, Sizes}
use Rattle.sf_gsrc.specs.declared.fault.LineFault.{LineFault}
use Rattle.sf_gsrc.specs.declared.fault.LineFault.TheVariants.{BadLine, ZeroSide}
use Rattle.sf_gsrc.specs.declared.output.Place.{Place}
use Rattle.sf_lex.specs.Results.{◌>>=◌}
use Rattle.sf_gsrc.specs.Line.{number_in, coordinate_in_word}

-- a side in a word
abbrev pub length_in_word : ℕ → List ℕ → Result ℕ LineFault
length_in_word scale word = number_in (decimal_read scale 9_000_000_000_000_000 word)

-- the two words behind `DIMS`
abbrev pub size_words : List (List ℕ) → Result (Option (List ℕ × List ℕ)) LineFault
size_words [] = Err BadLine
size_words (w ∷ []) = Err BadLine
size_words (w ∷ h ∷ more) = Ok (Some (w, h))

-- the words of the sides, where `DIMS` follows
unfoldable pub sides_said : List (List ℕ) → Result (Option (List ℕ × List ℕ)) LineFault
sides_said [] = Ok None
sides_said (word ∷ more) = if bytes_eq word (codes "DIMS") then size_words more else Ok None

-- and the size that they are
unfoldable pub size_in_words : ℕ → Option (List ℕ × List ℕ) → Result (Option (ℕ × ℕ)) LineFault
size_in_words scale None = Ok None
size_in_words scale (Some sides) = do
  w ← length_in_word scale sides.0
  h ← length_in_word scale sides.1
  if (w == 0) || (h == 0) then Err ZeroSide else Ok (Some (w, h))

-- a name at a place, with such a size
unfoldable pub spot_said : ℕ → List ℕ → List ℕ → List ℕ → Option (List ℕ × List ℕ) → Result Place LineFault
spot_said scale name x y sides = do
  a ← coordinate_in_word scale x
  b ← coordinate_in_word scale y
  size ← size_in_words scale sides
  Ok (record { name = name; x = a; y = b; size = size })

-- the third word is there
abbrev pub coordinates_said : ℕ → List ℕ → List ℕ → List ℕ → List (List ℕ) → Result Place LineFault
coordinates_said scale name x y rest = if is_not_empty y then (sides_said rest >>= spot_said scale name x y) else Err BadLine

-- a name and two coordinates, and behind them maybe a size
unfoldable pub place_said : ℕ → List ℕ → Result Place LineFault
place_said scale line = coordinates_said scale (first_word Blanks line) (first_word Blanks (after_word Blanks line))
    (first_word Blanks (after_word Blanks (after_word Blanks line)))
    (words (is_gap Sizes) (after_word Blanks (after_word Blanks (after_word Blanks line))))
