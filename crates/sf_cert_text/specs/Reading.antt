-- What a text of any version is read as: the certificate that it spells, or its first fault.
use Rattle.std.specs.Prelude.{◌≡◌, ℕ, zero, suc, ◌==◌, nat_lt, List, [], ◌∷◌, ◌++◌, codes, Option, Some, None, Result, Ok, Err, if◌then◌else◌}
use Rattle.std.specs.Option.{option_and_then, option_map}
use Rattle.std.specs.Str.{bytes_eq}
use Rattle.sf_lex.specs.Text.{lines, words, is_blank_byte}
use Rattle.sf_lex.specs.Scan.{Line, LineWord, numbered, words_of_lines, last_line_of}
use Rattle.sf_lex.specs.Gap.{first_word, after_word}
use Rattle.sf_lex.specs.declared.field.Gap.TheVariants.{Blanks}
use Rattle.sf_lex.specs.Whole.{whole_read, plain_read}
use Rattle.sf_lex.specs.Results.{◌>>=◌}
use Rattle.sf_model.specs.declared.TheConstants.{MAX}
use Rattle.sf_model.specs.declared.parts.Pin.{Pin}
use Rattle.sf_model.specs.declared.parts.Pin.TheVariants.{Block, Pad}
use Rattle.sf_polish.specs.declared.expr.Expr.{Expr}
use Rattle.sf_expr_text.specs.declared.fault.ExprFault.{ExprFault}
use Rattle.sf_expr_text.specs.Reading.{expr_read}
use Rattle.sf_cert_text.specs.declared.fault.CertFault.{CertFault}
use Rattle.sf_cert_text.specs.declared.fault.CertFault.TheVariants.{BadHeader, BadTag, TooDeep, Truncated, Trailing}
use Rattle.sf_node.specs.declared.part.Part.{Part}
use Rattle.sf_node.specs.declared.part.Part.TheVariants.{Area, Range, Pair, Hull, Full}
use Rattle.sf_cert_text.specs.declared.letter.HalfTag.{HalfTag}
use Rattle.sf_cert_text.specs.declared.letter.Letter.{Letter}
use Rattle.sf_cert_text.specs.declared.letter.Letter.TheVariants.{Whole, First}
use Rattle.sf_cert_text.specs.declared.letter.Second.{Second}
use Rattle.sf_cert_text.specs.declared.letter.TagSaid.{TagSaid}
use Rattle.sf_cert_text.specs.declared.letter.Second.TheVariants as second
use Rattle.sf_model.specs.declared.paths.Path.{Path}
use Rattle.sf_model.specs.declared.paths.Paths.{Paths}
use Rattle.sf_model.specs.declared.paths.Step.{Step as PathStep}
use Rattle.sf_certificate.specs.declared.place.Place.{Place}
use Rattle.sf_certificate.specs.declared.tag.Tag.{Tag}
use Rattle.sf_certificate.specs.declared.tag.Tag.TheVariants.{Extend, Split, Closed, Open}
use Rattle.sf_cert_text.specs.declared.version.Version.{Version}
use Rattle.sf_cert_text.specs.declared.version.Version.TheVariants.{One, Two, Three}
use Rattle.sf_certificate.specs.Places.{first_place, places_under}
use Rattle.sf_certificate.specs.Said.{Said}

-- ---- the header: each line by itself

-- the value behind a label, where the words are these two
abbrev pub value_after : List ℕ → List (List ℕ) → Option (List ℕ)
value_after label [] = None
value_after label (first ∷ []) = None
value_after label (first ∷ value ∷ []) = if bytes_eq first label then Some value else None
value_after label (first ∷ value ∷ other ∷ others) = None

-- the value of a line of a label and a value
abbrev pub value_in : List ℕ → List ℕ → Option (List ℕ)
value_in label line = value_after label (words is_blank_byte line)

-- the version that is named by a number
abbrev pub version_of : ℕ → Option Version
version_of n = if n == 1 then Some One else (if n == 2 then Some Two else (if n == 3 then Some Three else None))

-- 1, 2 or 3, without zeros at the front
abbrev pub version_of_word : List ℕ → Option Version
version_of_word word = option_and_then version_of (plain_read 3 word)

-- a label and a version
abbrev pub version_in : List ℕ → List ℕ → Option Version
version_in label line = option_and_then version_of_word (value_in label line)

-- the number, where it is this one
abbrev pub exactly : ℕ → Option ℕ → Option ℕ
exactly n None = None
exactly n (Some k) = if k == n then Some n else None

-- a label and this number, without zeros at the front
abbrev pub number_in : List ℕ → ℕ → List ℕ → Option ℕ
number_in label n line = exactly n (option_and_then (plain_read n) (value_in label line))

-- `none` for MAX, or a number below it, without zeros at the front
abbrev pub cost_of_word : List ℕ → Option ℕ
cost_of_word word = if bytes_eq word (codes "none") then Some MAX else plain_read 18_446_744_073_709_551_614 word

-- a label and a cost
abbrev pub cost_in : List ℕ → List ℕ → Option ℕ
cost_in label line = option_and_then cost_of_word (value_in label line)

-- the only one of the words, where it is this one
abbrev pub only_word : List ℕ → List (List ℕ) → Option (List ℕ)
only_word word [] = None
only_word word (first ∷ []) = if bytes_eq first word then Some word else None
only_word word (first ∷ other ∷ others) = None

-- a line of this word alone
abbrev pub word_in : List ℕ → List ℕ → Option (List ℕ)
word_in word line = only_word word (words is_blank_byte line)

-- an expression that is read is a plan
abbrev pub plan_read : Result Expr ExprFault → Option (Option Expr)
plan_read (Ok expr) = Some (Some expr)
plan_read (Err fault) = None

-- no plan where the word `none` stands, and else what is read
abbrev pub plan_or : Option (List ℕ) → Option (Option Expr) → Option (Option Expr)
plan_or None plan = plan
plan_or (Some word) plan = Some None

-- no plan exactly where there is no cost
abbrev pub agreeing : ℕ → Option (Option Expr) → Option (Option Expr)
agreeing cost None = None
agreeing cost (Some None) = if cost == MAX then Some None else None
agreeing cost (Some (Some expr)) = if cost == MAX then None else Some (Some expr)

-- `none`, or an expression of these blocks
abbrev pub plan_of_rest : ℕ → List ℕ → Option (Option Expr)
plan_of_rest blocks rest = plan_or (word_in (codes "none") rest) (plan_read (expr_read blocks rest))

-- the plan that a line says behind its label
abbrev pub plan_said : ℕ → List ℕ → Option (Option Expr)
plan_said blocks line = if bytes_eq (first_word Blanks line) (codes "plan") then plan_of_rest blocks (after_word Blanks line) else None

-- the plan of a line, which agrees with the cost
abbrev pub plan_in : ℕ → ℕ → List ℕ → Option (Option Expr)
plan_in blocks cost line = agreeing cost (plan_said blocks line)

-- a label and a count, without zeros at the front
abbrev pub count_in : List ℕ → List ℕ → Option ℕ
count_in label line = option_and_then (plain_read 18_446_744_073_709_551_615) (value_in label line)

-- ---- the header: the line of a path

-- the pin of a number, by the words behind it: a pad at the end of a line, and else a block
abbrev pub pin_before : List (List ℕ) → ℕ → Pin
pin_before [] n = Pad n
pin_before (word ∷ words) n = Block n

-- a step, where there are a net and a pin
abbrev pub step_by : Option ℕ → Option Pin → Option PathStep
step_by None to = None
step_by (Some net) None = None
step_by (Some net) (Some to) = Some (record { net = net; to = to })

-- the step that a net and a pin say, by the words behind them
abbrev pub step_in : List ℕ → List ℕ → List (List ℕ) → Option PathStep
step_in net to words = step_by (plain_read 4_294_967_295 net) (option_map (pin_before words) (plain_read 65_535 to))

-- a step in front of those that follow
abbrev pub with_step : Option PathStep → Option (List PathStep) → Option (List PathStep)
with_step None steps = None
with_step (Some s) None = None
with_step (Some s) (Some steps) = Some (s ∷ steps)

-- the steps that words say, a net and a pin by turns
abbrev pub steps_said : List (List ℕ) → Option (List PathStep)
steps_said [] = Some []
steps_said (net ∷ []) = None
steps_said (net ∷ to ∷ words) = with_step (step_in net to words) (steps_said words)

-- a path of a step at least
abbrev pub path_by : Option ℕ → Option (List PathStep) → Option Path
path_by None steps = None
path_by (Some pad) None = None
path_by (Some pad) (Some []) = None
path_by (Some pad) (Some (s ∷ steps)) = Some (record { first = Pad pad; steps = s ∷ steps })

-- the path that words say
abbrev pub path_said : List (List ℕ) → Option Path
path_said [] = None
path_said (pad ∷ words) = path_by (plain_read 65_535 pad) (steps_said words)

-- a line of a path
abbrev pub path_in : List ℕ → Option Path
path_in line = path_said (words is_blank_byte line)

-- ---- the header: one line after another

-- a line that stands as shown gives its value, and the lines behind it are left
abbrev pub line_by : {X : Type 0} → ℕ → List Line → Option X → Result (X × List Line) CertFault
line_by number others None = Err (BadHeader number)
line_by number others (Some x) = Ok (x, others)

-- the next line by a rule; one that isn't there is missed at the last line of the text
abbrev pub line_read : {X : Type 0} → ℕ → (List ℕ → Option X) → List Line → Result (X × List Line) CertFault
line_read last rule [] = Err (BadHeader last)
line_read last rule (line ∷ others) = line_by line.number others (rule line.bytes)

-- the next line is read by a rule and the answer stands for its value, or both are at one fault
abbrev pub ReadsLine : {X Y : Type 0} → ℕ → (List ℕ → Option X) → (Y → X) → List Line → List Line → Result Y CertFault → Type 0
ReadsLine last rule value old new (Ok y) = line_read last rule old ≡ Ok (value y, new)
ReadsLine last rule value old new (Err fault) = line_read last rule old ≡ Err fault

-- so many lines, each of a path
unfoldable pub paths_read : ℕ → ℕ → List Line → Result (List Path × List Line) CertFault
paths_read last zero all = Ok ([], all)
paths_read last (suc n) all = do
  path ← line_read last path_in all
  others ← paths_read last n path.1
  Ok (path.0 ∷ others.0, others.1)

-- the lines of an axis: how many paths it has, and these
abbrev pub axis_read : ℕ → List ℕ → List Line → Result (List Path × List Line) CertFault
axis_read last label all = do
  count ← line_read last (count_in label) all
  paths_read last count.0 count.1

-- the paths of a version: the first two have none
abbrev pub both_read : Version → ℕ → List Line → Result (Paths × List Line) CertFault
both_read One last all = Ok (record { across = []; upward = [] }, all)
both_read Two last all = Ok (record { across = []; upward = [] }, all)
both_read Three last all = do
  across ← axis_read last (codes "across") all
  upward ← axis_read last (codes "upward") across.1
  Ok (record { across = across.0; upward = upward.0 }, upward.1)

-- what the header says, and the lines behind it
pub record Header : Type 0 where
  pub version : Version
  pub plan : Option Expr
  pub cost : ℕ
  pub bound : ℕ
  pub paths : Paths
  pub others : List Line

-- its lines in turn
unfoldable pub header_read : ℕ → ℕ → List Line → Result Header CertFault
header_read blocks last all = do
  title ← line_read last (version_in (codes "slicing-certificate")) all
  count ← line_read last (number_in (codes "blocks") blocks) title.1
  cost ← line_read last (cost_in (codes "cost")) count.1
  bound ← line_read last (cost_in (codes "bound")) cost.1
  plan ← line_read last (plan_in blocks cost.0) bound.1
  paths ← both_read title.0 last plan.1
  tree ← line_read last (word_in (codes "tree")) paths.1
  Ok (record { version = title.0; plan = plan.0; cost = cost.0; bound = bound.0; paths = paths.0; others = tree.1 })

-- ---- the tree

-- what a `C` says: in the first version all of a tag, and in the later ones a part is to be named
abbrev pub closed_word : Version → Letter
closed_word One = Whole (Closed Full)
closed_word Two = First second.Part
closed_word Three = First second.Part

-- what a word of this one byte says as the first of a tag
abbrev pub letter_by : Version → ℕ → Option Letter
letter_by version b =
    if b == 69 then Some (Whole Extend)
    else (if b == 83 then Some (First second.Block)
    else (if b == 67 then Some (closed_word version)
    else (if b == 79 then Some (Whole Open)
    else None)))

-- what the first word of a tag says: `E`, `S`, `C` or `O`
abbrev pub letter_of : Version → List ℕ → Option Letter
letter_of version [] = None
letter_of version (b ∷ []) = letter_by version b
letter_of version (b ∷ c ∷ bytes) = None

-- the part that a word of this one byte names
abbrev pub part_by : ℕ → Option Part
part_by b =
    if b == 97 then Some Area
    else (if b == 114 then Some Range
    else (if b == 112 then Some Pair
    else (if b == 104 then Some Hull
    else (if b == 102 then Some Full
    else None))))

-- the part that a word names: `a`, `r`, `p`, `h` or `f`
abbrev pub part_of : List ℕ → Option Part
part_of [] = None
part_of (b ∷ []) = part_by b
part_of (b ∷ c ∷ bytes) = None

-- what the first word of a tag says, before the others; or those that follow a tag of two words
abbrev pub by_letter : ℕ → Option Letter → List TagSaid → (Second → List TagSaid) → List TagSaid
by_letter line None others more = record { line = line; tag = Err (BadTag line) } ∷ others
by_letter line (Some (Whole tag)) others more = record { line = line; tag = Ok tag } ∷ others
by_letter line (Some (First second)) others more = more second

-- a split of the block that a word names, or a tag at fault
abbrev pub split_by : ℕ → Option ℕ → Result Tag CertFault
split_by line None = Err (BadTag line)
split_by line (Some b) = Ok (Split b)

-- a subproblem closed by the part that a word names, or a tag at fault
abbrev pub closed_by : ℕ → Option Part → Result Tag CertFault
closed_by line None = Err (BadTag line)
closed_by line (Some p) = Ok (Closed p)

-- what a second word that is to say this says, where the first stands in this line
abbrev pub second_by : Second → ℕ → List ℕ → Result Tag CertFault
second_by second.Block line word = split_by line (whole_read 65535 word)
second_by second.Part line word = closed_by line (part_of word)

-- the tag whose first word was read and whose second word this is
abbrev pub tag_by : HalfTag → List ℕ → Result Tag CertFault
tag_by half word = second_by half.second half.line word

-- the tags that words say, where the first word of a tag may stand before them
unfoldable pub tags_said : Version → ℕ → Option HalfTag → List LineWord → List TagSaid
tags_said version last None [] = []
tags_said version last (Some half) [] = record { line = half.line; tag = Err (Truncated last) } ∷ []
tags_said version last None (word ∷ others) = by_letter word.line (letter_of version word.text) (tags_said version last None others) (λ second. tags_said version last (Some (record { second = second; line = word.line })) others)
tags_said version last (Some half) (word ∷ others) = record { line = half.line; tag = tag_by half word.text } ∷ tags_said version last None others

-- a tag in front of those that follow
abbrev pub with_tag : Tag → Result (List Tag) CertFault → Result (List Tag) CertFault
with_tag tag (Ok tags) = Ok (tag ∷ tags)
with_tag tag (Err fault) = Err fault

-- a tag at its place: a fault of its words comes before one of its depth
abbrev pub tag_at : Place → ℕ → Result Tag CertFault → (Tag → Result (List Tag) CertFault) → Result (List Tag) CertFault
tag_at place line (Err fault) next = Err fault
tag_at place line (Ok tag) next = if nat_lt place.depth 3200 then next tag else Err (TooDeep line)

-- the tags for the places that wait
unfoldable pub tree_from : ℕ → ℕ → List Place → List TagSaid → Result (List Tag) CertFault
tree_from n last [] [] = Ok []
tree_from n last [] (said ∷ others) = Err (Trailing said.line)
tree_from n last (place ∷ places) [] = Err (Truncated last)
tree_from n last (place ∷ places) (said ∷ others) = tag_at place said.line said.tag (λ tag. with_tag tag (tree_from n last (places_under n tag place ++ places) others))

-- the tree that words spell among n blocks
abbrev pub tree_read : Version → ℕ → ℕ → List LineWord → Result (List Tag) CertFault
tree_read version n last words = tree_from n last (first_place ∷ []) (tags_said version last None words)

-- ---- the whole text

-- the header, and then the tree
unfoldable pub cert_read : ℕ → List ℕ → Result Said CertFault
cert_read blocks text = do
  header ← header_read blocks (last_line_of text) (numbered 1 (lines text))
  tags ← tree_read header.version blocks (last_line_of text) (words_of_lines header.others)
  Ok (record { blocks = blocks; plan = header.plan; cost = header.cost; bound = header.bound; paths = header.paths; tags = tags })
