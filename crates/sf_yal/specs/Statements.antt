-- A text is a list of statements, each ended by a semicolon.
use Rattle.std.specs.Prelude.{ℕ, ◌+◌, ◌-◌, Bool, true, false, not, ◌&&◌, ◌==◌, List, [], ◌∷◌, length, take}
use Rattle.std.specs.List.{slice_split, count_by, prefix_len, suffix_len}
use Rattle.sf_lex.specs.Text.{words, is_blank_byte, is_line_feed}
use Rattle.sf_yal.specs.Comments.{hide, ends_inside}

-- the byte ends a statement
abbrev pub is_semicolon : ℕ → Bool
is_semicolon b = b == 59

-- what stands between the semicolons; the last piece stands behind the last of them
abbrev pub pieces : List ℕ → List (List ℕ)
pieces bytes = slice_split is_semicolon bytes

-- a statement: its words, and the number of the line in which the first of them begins
pub record Statement : Type 0 where
  pub line : ℕ
  pub words : List (List ℕ)

-- how many lines end in the bytes
abbrev pub feeds : List ℕ → ℕ
feeds bytes = count_by is_line_feed bytes

-- the statement of a piece that begins in line n
abbrev pub statement_at : ℕ → List ℕ → Statement
statement_at n piece = record { line = n + feeds (take (prefix_len is_blank_byte piece) piece); words = words is_blank_byte piece }

-- the statements of all pieces but the last
abbrev pub statements : ℕ → List (List ℕ) → List Statement
statements n [] = []
statements n (piece ∷ []) = []
statements n (piece ∷ next ∷ more) = statement_at n piece ∷ statements (n + feeds piece) (next ∷ more)

-- what stands behind the last semicolon
abbrev pub last_piece : List (List ℕ) → List ℕ
last_piece [] = []
last_piece (piece ∷ []) = piece
last_piece (piece ∷ next ∷ more) = last_piece (next ∷ more)

-- there are no words
abbrev pub is_none_left : List (List ℕ) → Bool
is_none_left [] = true
is_none_left (word ∷ more) = false

-- the bytes have no word
abbrev pub has_no_word : List ℕ → Bool
has_no_word bytes = is_none_left (words is_blank_byte bytes)

-- the statements of a text, whose comments count as blanks
abbrev pub statements_of : List ℕ → List Statement
statements_of text = statements 1 (pieces (hide false text))

-- no comment and no statement is open at the end
abbrev pub is_ended : List ℕ → Bool
is_ended text = not (ends_inside false text) && has_no_word (last_piece (pieces (hide false text)))

-- the number of the line in which the last byte lies that is no blank, or 0
abbrev pub without_end : List ℕ → List ℕ
without_end bytes = take (length bytes - suffix_len is_blank_byte bytes) bytes

-- the line in which these bytes end
abbrev pub line_of_last : List ℕ → ℕ
line_of_last [] = 0
line_of_last (b ∷ bytes) = 1 + feeds (b ∷ bytes)

-- that of a text, whose comments count as blanks
abbrev pub last_line : List ℕ → ℕ
last_line text = line_of_last (without_end (hide false text))
