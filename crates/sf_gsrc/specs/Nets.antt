-- What a nets file stands for, and its first fault if it stands for nothing.
use Rattle.std.specs.Prelude.{ℕ, ◌==◌, List, [], ◌∷◌, ◌++◌, length, Option, Some, None, is_some, Result, Ok, Err, if◌then◌else◌, codes}
use Rattle.sf_lex.specs.Text.{words}
use Rattle.sf_lex.specs.Scan.{Line}
use Rattle.sf_parts.specs.declared.raw.RawNet.{RawNet}
use Rattle.sf_parts.specs.declared.raw.RawPin.{RawPin}
use Rattle.sf_parts.specs.declared.raw.RawPin.TheVariants.{Named}
use Rattle.sf_gsrc.specs.declared.fault.GsrcFault.{GsrcFault}
use Rattle.sf_gsrc.specs.declared.fault.GsrcFault.TheVariants as faults
use Rattle.sf_gsrc.specs.declared.fault.LineFault.{LineFault}
use Rattle.sf_lex.specs.declared.field.Gap.TheVariants.{Blanks, Colons}
use Rattle.sf_gsrc.specs.declared.net_words.NetWord.{NetWord}
use Rattle.sf_gsrc.specs.declared.net_words.NetWord.TheVariants as net_words
use Rattle.sf_gsrc.specs.declared.count.Count.{Count}
use Rattle.sf_gsrc.specs.declared.output.GsrcNets.{GsrcNets}
use Rattle.sf_lex.specs.Gap.{is_gap, first_word}
use Rattle.sf_gsrc.specs.Keywords.{net_word_by}
use Rattle.sf_lex.specs.Results.{◌>>=◌}
use Rattle.sf_gsrc.specs.Line.{count_said}
use Rattle.sf_gsrc.specs.Blocks.{content_of, read_from, opened, last_of, fault_at, compared}

-- what a line says
pub data NetSaid : Type 0 where
  NetsAre : ℕ → NetSaid
  PinsAre : ℕ → NetSaid
  DegreeIs : ℕ → NetSaid
  PinIs : List ℕ → NetSaid

-- the same, with the number of the line
pub record NetEntry : Type 0 where
  pub number : ℕ
  pub said : NetSaid

-- ---- what the lines so far say, the last one first

-- the number of nets after one more line
abbrev pub count_step : ℕ → NetSaid → Option Count → Option Count
count_step n (NetsAre said) before = Some (record { line = n; said = said })
count_step n (PinsAre said) before = before
count_step n (DegreeIs d) before = before
count_step n (PinIs name) before = before

-- the number of nets that was said
abbrev pub nets_said : List NetEntry → Option Count
nets_said [] = None
nets_said (e ∷ past) = count_step e.number e.said (nets_said past)

-- the degree of the last net after one more line
abbrev pub degree_step : ℕ → NetSaid → Option Count → Option Count
degree_step n (NetsAre said) before = before
degree_step n (PinsAre said) before = before
degree_step n (DegreeIs d) before = Some (record { line = n; said = d })
degree_step n (PinIs name) before = before

-- the degree of the last net
abbrev pub degree_said : List NetEntry → Option Count
degree_said [] = None
degree_said (e ∷ past) = degree_step e.number e.said (degree_said past)

-- the pins of the last net after one more line
abbrev pub pins_step : NetSaid → List RawPin → List RawPin
pins_step (NetsAre said) before = before
pins_step (PinsAre said) before = before
pins_step (DegreeIs d) before = []
pins_step (PinIs name) before = before ++ Named name ∷ []

-- the pins of the last net
abbrev pub last_pins : List NetEntry → List RawPin
last_pins [] = []
last_pins (e ∷ past) = pins_step e.said (last_pins past)

-- these nets, and the last one if there is one
abbrev pub with_last : List RawNet → Option Count → List RawPin → List RawNet
with_last nets None pins = nets
with_last nets (Some degree) pins = nets ++ record { pins = pins } ∷ []

-- the nets before the last after one more line
abbrev pub earlier_step : NetSaid → List RawNet → List RawNet → List RawNet
earlier_step (NetsAre said) before all = before
earlier_step (PinsAre said) before all = before
earlier_step (DegreeIs d) before all = all
earlier_step (PinIs name) before all = before

-- the nets before the last one
abbrev pub earlier_nets : List NetEntry → List RawNet
earlier_nets [] = []
earlier_nets (e ∷ past) = earlier_step e.said (earlier_nets past) (with_last (earlier_nets past) (degree_said past) (last_pins past))

-- all nets, the last among them
abbrev pub nets_of : List NetEntry → List RawNet
nets_of past = with_last (earlier_nets past) (degree_said past) (last_pins past)

-- ---- the faults of a line

-- the last net has as many pins as its degree says
abbrev pub degree_kept : {X : Type 0} → Option Count → ℕ → Result X GsrcFault → Result X GsrcFault
degree_kept None found next = next
degree_kept (Some degree) found next = if degree.said == found then next else Err (faults.BadDegree degree.line degree.said found)

-- what a line says, or its fault, with the number of the line
abbrev pub net_entry_at : ℕ → (ℕ → NetSaid) → Result ℕ LineFault → Result NetEntry GsrcFault
net_entry_at n says (Ok x) = Ok (record { number = n; said = says x })
net_entry_at n says (Err fault) = Err (fault_at n fault)

-- the number of a count line
abbrev pub number_of_line : Line → Result ℕ LineFault
number_of_line line = count_said (words (is_gap Colons) line.bytes)

-- what a line says that begins with such a word, or with none
abbrev pub net_entry_by : List NetEntry → Line → Option NetWord → Result NetEntry GsrcFault
net_entry_by past line (Some net_words.Nets) = if is_some (nets_said past) then Err (faults.BadLine line.number) else net_entry_at line.number NetsAre (number_of_line line)
net_entry_by past line (Some net_words.Pins) = net_entry_at line.number PinsAre (number_of_line line)
net_entry_by past line (Some net_words.Degree) = degree_kept (degree_said past) (length (last_pins past)) (net_entry_at line.number DegreeIs (number_of_line line))
net_entry_by past line None = if is_some (degree_said past) then Ok (record { number = line.number; said = PinIs (first_word Blanks line.bytes) }) else Err (faults.BadLine line.number)

-- what a line says after earlier ones
abbrev pub net_entry_after : List NetEntry → Line → Result NetEntry GsrcFault
net_entry_after past line = net_entry_by past line (net_word_by line.bytes)

-- what the lines say, behind what the earlier ones said
abbrev pub net_entries_from : List NetEntry → List Line → Result (List NetEntry) GsrcFault
net_entries_from past lines = read_from net_entry_after (λ past e. e ∷ past) past lines

-- ---- the end of the text

-- the nets, where their number is what the text says
abbrev pub nets_counted : ℕ → Option Count → List RawNet → Result GsrcNets GsrcFault
nets_counted last None nets = Err (faults.Truncated last)
nets_counted last (Some count) nets = compared count (length nets) (Ok (record { nets = nets }))

-- what all lines say, where their numbers agree
abbrev pub nets_finished : ℕ → List NetEntry → Result GsrcNets GsrcFault
nets_finished last past = degree_kept (degree_said past) (length (last_pins past)) (nets_counted last (nets_said past) (nets_of past))

-- what the lines say behind their title
abbrev pub nets_titled : List Line → Result GsrcNets GsrcFault
nets_titled all = opened (codes "nets") all >>= λ o. (net_entries_from [] o.1 >>= nets_finished (last_of o.0 o.1))

-- what a text is read as
unfoldable pub nets_read : List ℕ → Result GsrcNets GsrcFault
nets_read text = nets_titled (content_of text)
