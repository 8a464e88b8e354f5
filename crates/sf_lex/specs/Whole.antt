-- Whole numbers of digits alone.
use Rattle.std.specs.Prelude.{ℕ, Bool, false, not, ◌&&◌, ◌||◌, ◌==◌, nat_le, List, [], ◌∷◌, length, Option, Some, None, if◌then◌else◌}
use Rattle.std.specs.List.{list_all}
use Rattle.sf_lex.specs.Text.{is_not_empty}
use Rattle.sf_lex.specs.Number.{is_digit, is_zero, number_of}

-- one to twenty digits, zeros at the front among them
abbrev pub is_whole : List ℕ → Bool
is_whole word = list_all is_digit word && (is_not_empty word && nat_le (length word) 20)

-- the first digit is 0
abbrev pub begins_with_zero : List ℕ → Bool
begins_with_zero [] = false
begins_with_zero (b ∷ word) = is_zero b

-- `0`, or digits of which the first is not 0
abbrev pub is_plain : List ℕ → Bool
is_plain word = list_all is_digit word && (is_not_empty word && (length word == 1 || not (begins_with_zero word)))

-- a number, where it is within the limit
abbrev pub up_to : ℕ → ℕ → Option ℕ
up_to limit n = if nat_le n limit then Some n else None

-- what a word of one to twenty digits is read as
unfoldable pub whole_read : ℕ → List ℕ → Option ℕ
whole_read limit word = if is_whole word then up_to limit (number_of word) else None

-- what a word of digits without a zero at the front is read as
unfoldable pub plain_read : ℕ → List ℕ → Option ℕ
plain_read limit word = if is_plain word then up_to limit (number_of word) else None
