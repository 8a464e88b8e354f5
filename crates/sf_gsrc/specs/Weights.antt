-- What a weights file stands for, and its first fault if it stands for nothing.
use Rattle.std.specs.Prelude.{◌≡◌, ℕ, ◌<◌, ◌==◌, nat_lt, List, [], ◌∷◌, ◌++◌, map, Option, Some, None, is_some, Result, Ok, Err, if◌then◌else◌}
use Rattle.std.specs.Global.{Vec}
use Rattle.std.specs.List.{AllZip, IsDistinct, range_with_len}
use Rattle.std.specs.Option.{unwrap_or}
use Rattle.sf_lex.specs.Text.{words}
use Rattle.sf_lex.specs.Scan.{Line}
use Rattle.sf_lex.specs.Number.{decimal_read}
use Rattle.sf_lex.specs.Gap.{is_gap}
use Rattle.sf_lex.specs.declared.field.Gap.TheVariants.{Blanks}
use Rattle.sf_lex.specs.declared.number.NumberFault.{NumberFault}
use Rattle.sf_gsrc.specs.declared.fault.WeightFault.{WeightFault}
use Rattle.sf_gsrc.specs.declared.fault.WeightFault.TheVariants.{BadLine, BadNumber, UnknownNet, RepeatedNet, NoMemory}
use Rattle.sf_lex.specs.Results.{◌>>=◌}
use Rattle.sf_gsrc.specs.Blocks.{content_of, read_from}

-- a net by its number, and its weight
pub record NetWeight : Type 0 where
  pub net : ℕ
  pub weight : ℕ

-- the weight that the lines say of a net, where one of them names it
abbrev pub weight_said : List NetWeight → ℕ → Option ℕ
weight_said [] net = None
weight_said (s ∷ said) net = if s.net == net then Some s.weight else weight_said said net

-- the weight of a net: that of its line, or else 1
abbrev pub weight_of : List NetWeight → ℕ → ℕ
weight_of said net = unwrap_or (weight_said said net) 1

-- one weight for each of so many nets
abbrev pub weights_of : ℕ → List NetWeight → List ℕ
weights_of nets said = map (weight_of said) (range_with_len 0 nets)

-- the number of a net, and a weight
abbrev pub net_in_word : List ℕ → Result ℕ NumberFault
net_in_word word = decimal_read 1 9_000_000_000_000_000 word

-- a weight in a word
abbrev pub weight_in_word : List ℕ → Result ℕ NumberFault
weight_in_word word = decimal_read 1 255 word

-- ---- what a text stands for, as a relation

-- the line is two words: the number of one of so many nets, and its weight
pub record SaysWeight (nets : ℕ) (line : Line) (said : NetWeight) : Type 0 where
  pub number : List ℕ
  pub weight : List ℕ
  pub words_are : words (is_gap Blanks) line.bytes ≡ number ∷ weight ∷ []
  pub net_is : net_in_word number ≡ Ok said.net
  pub is_known : said.net < nets
  pub weight_is : weight_in_word weight ≡ Ok said.weight

-- each line gives a weight to a net, no two lines to the same one; and what is read has for each net the weight of its
-- line, or else 1
pub record WeightsStandFor (text : List ℕ) (nets : ℕ) (out : List ℕ) : Type 0 where
  pub said : List NetWeight
  pub each : AllZip (SaysWeight nets) (content_of text) said
  pub once : IsDistinct (λ a b. a == b) (map (λ s. s.net) said)
  pub weights : out ≡ weights_of nets said

-- ---- the faults of a line

-- a number, or its fault with the line's number
abbrev pub number_on : ℕ → Result ℕ NumberFault → Result ℕ WeightFault
number_on n (Ok x) = Ok x
number_on n (Err fault) = Err (BadNumber n fault)

-- a net that is there and that no earlier line names
abbrev pub new_net : ℕ → List NetWeight → ℕ → ℕ → Result ℕ WeightFault
new_net nets earlier n net = if nat_lt net nets
    then (if is_some (weight_said earlier net) then Err (RepeatedNet n net) else Ok net)
    else Err (UnknownNet n net)

-- the words of a line of two words
unfoldable pub two_words : List (List ℕ) → Option (List ℕ × List ℕ)
two_words [] = None
two_words (number ∷ []) = None
two_words (number ∷ weight ∷ []) = Some (number, weight)
two_words (number ∷ weight ∷ other ∷ more) = None

-- what a line of two words says after earlier ones
abbrev pub pair_after : ℕ → List NetWeight → ℕ → Option (List ℕ × List ℕ) → Result NetWeight WeightFault
pair_after nets earlier n None = Err (BadLine n)
pair_after nets earlier n (Some pair) = do
  number ← number_on n (net_in_word pair.0)
  net ← new_net nets earlier n number
  weight ← number_on n (weight_in_word pair.1)
  Ok (record { net = net; weight = weight })

-- what a line says after earlier ones
abbrev pub weight_after : ℕ → List NetWeight → Line → Result NetWeight WeightFault
weight_after nets earlier line = pair_after nets earlier line.number (two_words (words (is_gap Blanks) line.bytes))

-- what the lines say, behind what the earlier ones said
abbrev pub weights_from : ℕ → List NetWeight → List Line → Result (List NetWeight) WeightFault
weights_from nets earlier lines = read_from (weight_after nets) (λ past s. past ++ s ∷ []) earlier lines

-- what a text is read as
unfoldable pub weights_read : ℕ → List ℕ → Result (List ℕ) WeightFault
weights_read nets text = weights_from nets [] (content_of text) >>= λ said. Ok (weights_of nets said)

-- ---- what a function returned

-- what a function returned is what reading gives, unless memory ran out
abbrev pub GivesWeights : Result (Vec ℕ) WeightFault → Result (List ℕ) WeightFault → Type 0
GivesWeights (Ok weights) read = read ≡ Ok weights.items
GivesWeights (Err NoMemory) read = Unit {0}
GivesWeights (Err fault) read = read ≡ Err fault
