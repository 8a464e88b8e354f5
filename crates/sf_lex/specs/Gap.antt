-- The words of a part of a text, where further bytes count as blanks.
use Rattle.std.specs.Prelude.{ℕ, Bool, ◌||◌, ◌==◌, List, drop}
use Rattle.std.specs.List.{prefix_len, position_or_len, before_first}
use Rattle.sf_lex.specs.Text.{is_blank_byte}
use Rattle.sf_lex.specs.declared.field.Gap.{Gap}
use Rattle.sf_lex.specs.declared.field.Gap.TheVariants.{Blanks, Colons, Points, Sizes}

-- the bytes that count as blanks: the blanks, and with them `:`, or `(`, `)` and `,`, or also `=`
abbrev pub is_gap : Gap → ℕ → Bool
is_gap Blanks b = is_blank_byte b
is_gap Colons b = is_blank_byte b || b == 58
is_gap Points b = is_blank_byte b || (b == 40 || (b == 41 || b == 44))
is_gap Sizes b = is_blank_byte b || (b == 40 || (b == 41 || (b == 44 || b == 61)))

-- the first word, which is empty where there is none, and what stands after it
abbrev pub without_gap : Gap → List ℕ → List ℕ
without_gap gap bytes = drop (prefix_len (is_gap gap) bytes) bytes

-- the first word, which is empty where there is none
abbrev pub first_word : Gap → List ℕ → List ℕ
first_word gap bytes = before_first (is_gap gap) (without_gap gap bytes)

-- what stands after the first word
abbrev pub after_word : Gap → List ℕ → List ℕ
after_word gap bytes = drop (position_or_len (is_gap gap) (without_gap gap bytes)) (without_gap gap bytes)
