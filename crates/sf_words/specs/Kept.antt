-- The texts of options in what clap found.
use Rattle.std.specs.Prelude.{List, cond, Option, Some, None, [], ◌∷◌, map, fold, codes}
use Rattle.std.specs.Str.{bytes_eq}
use Rattle.clap.specs.Words.{Row, Text, first_of, found_of, rows_of}
use Rattle.sf_words.specs.declared.options.Key.{Key}
use Rattle.sf_words.specs.declared.parsed.Parsed.{Parsed}
use Rattle.clap.specs.Words.{Rule}
use Rattle.clap.specs.Simple.{filled}
use Rattle.clap.specs.Walk.{with_default}
use Rattle.clap.specs.declared.parser.matches.ValueSource.TheVariants.{CommandLine}
use Rattle.clap.specs.declared.builder.value_parser.Reading.TheVariants.{AsWritten}
use Rattle.sf_words.specs.declared.options.Mode.{Mode}
use Rattle.sf_words.specs.Table.{key_text, is_flag, keys_of}
use Rattle.sf_words.specs.Words.{Token, attached, spaced, alone, key_of}
use Rattle.sf_words.specs.App.{value_rule, flag_rule}

-- a flag is given where its text is `true`
abbrev pub flag_text : Option Text → Option Text
flag_text None = None
flag_text (Some text) = cond (bytes_eq text (codes "true")) (Some []) None

-- the text that the rows have of an option
abbrev pub texts_in : List Row → Key → Option Text
texts_in rows key = cond (is_flag key) (flag_text (first_of (key_text key) rows)) (first_of (key_text key) rows)

-- the text that clap found of an option
unfoldable pub texts_of : Parsed → Key → Option Text
texts_of p = texts_in (rows_of (found_of p.options.now))

-- an option's text as clap keeps it
abbrev pub text_in_row : Token → Text
text_in_row (attached key value) = value
text_in_row (spaced key value) = value
text_in_row (alone key) = codes "true"

-- the row of an option and its text
abbrev pub row : Key → Text → Row
row key text = record { id = key_text key; values = text ∷ []; count = None; source = Some CommandLine; reading = AsWritten }

-- the row of an option as it stands in the words
abbrev pub row_of : Token → Row
row_of t = row (key_of t) (text_in_row t)

-- the rule of an option, settled
abbrev pub full : Key → Rule
full key = cond (is_flag key) (filled (flag_rule (key_text key))) (filled (value_rule (key_text key)))

-- the rows that clap keeps of a command's options: those given, and the defaults of flags
abbrev pub rows_for : Mode → List Token → List Row
rows_for m ts = fold with_default (map row_of ts) (map full (keys_of m))
