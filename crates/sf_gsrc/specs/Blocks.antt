-- What a block file stands for, and its first fault if it stands for nothing.
use Rattle.std.specs.Prelude.{◌≡◌, ℕ, Bool, true, false, not, ◌&&◌, ◌||◌, ◌==◌, List, [], ◌∷◌, ◌++◌, length, filter, Option, Some, None, is_some, Result, Ok, Err, if◌then◌else◌, codes, count_by}
use Rattle.std.specs.List.{filter_map}
use Rattle.std.specs.Str.{bytes_eq}
use Rattle.sf_lex.specs.Text.{lines, words}
use Rattle.sf_lex.specs.Scan.{Line, numbered}
use Rattle.sf_parts.specs.declared.raw.RawBlock.{RawBlock}
use Rattle.sf_parts.specs.declared.raw.Kind.{Kind}
use Rattle.sf_parts.specs.declared.raw.Kind.TheVariants as kinds
use Rattle.sf_gsrc.specs.declared.fault.GsrcFault.{GsrcFault}
use Rattle.sf_gsrc.specs.declared.fault.GsrcFault.TheVariants as faults
use Rattle.sf_gsrc.specs.declared.fault.LineFault.{LineFault}
use Rattle.sf_gsrc.specs.declared.fault.LineFault.TheVariants.{BadLine, BadNumber, ZeroSide}
use Rattle.sf_lex.specs.declared.field.Gap.TheVariants.{Blanks, Colons}
use Rattle.sf_gsrc.specs.declared.keywords.Counted.{Counted}
use Rattle.sf_gsrc.specs.declared.keywords.Counted.TheVariants as counts
use Rattle.sf_gsrc.specs.declared.count.Count.{Count}
use Rattle.sf_gsrc.specs.declared.output.GsrcBlocks.{GsrcBlocks}
use Rattle.sf_lex.specs.Gap.{is_gap, first_word, after_word}
use Rattle.sf_lex.specs.Results.{◌>>=◌}
use Rattle.sf_gsrc.specs.Line.{Item, BlockIs, PadIs, counted_by, count_said, plain_said}

-- ---- lines

-- neither blank nor a comment: it has a first word, and that doesn't begin with `#`
abbrev pub is_content_word : List ℕ → Bool
is_content_word [] = false
is_content_word (b ∷ word) = not (b == 35)

-- a line that is neither blank nor a comment
abbrev pub is_content : Line → Bool
is_content line = is_content_word (first_word Blanks line.bytes)

-- the lines that are neither blank nor comments
abbrev pub content : List Line → List Line
content all = filter is_content all

-- those of a text
abbrev pub content_of : List ℕ → List Line
content_of text = content (numbered 1 (lines text))

-- what the lines say, each added to what the earlier ones said, up to the first fault
unfoldable pub read_from : {E F : Type 0} → (List E → Line → Result E F) → (List E → E → List E) → List E → List Line → Result (List E) F
read_from after add past [] = Ok past
read_from after add past (line ∷ more) = do
  e ← after past line
  read_from after add (add past e) more

-- the first two words of a title
unfoldable pub is_title : List ℕ → List ℕ → Bool
is_title kind line = (bytes_eq (first_word Blanks line) (codes "UCSC") || bytes_eq (first_word Blanks line) (codes "UCLA")) && bytes_eq (first_word Blanks (after_word Blanks line)) kind

-- the number of the last line, or else n
abbrev pub last_of : ℕ → List Line → ℕ
last_of n [] = n
last_of n (line ∷ more) = last_of line.number more

-- ---- what the lines say

-- what a line says: a count, or a block or a pad
pub data Said : Type 0 where
  CountIs : Counted → ℕ → Said
  ItemIs : Item → Said

-- the same, with the number of the line
pub record Entry : Type 0 where
  pub number : ℕ
  pub said : Said

-- whether two counts are of one kind
abbrev pub is_same : Counted → Counted → Bool
is_same counts.Soft counts.Soft = true
is_same counts.Hard counts.Hard = true
is_same counts.Terminals counts.Terminals = true
is_same _ _ = false

-- the count of this kind that a line says
abbrev pub count_at : Counted → ℕ → Said → Option Count
count_at which n (CountIs k said) = if is_same which k then Some (record { line = n; said = said }) else None
count_at which n (ItemIs item) = None

-- the block that a line says
abbrev pub block_at : Said → Option RawBlock
block_at (CountIs k said) = None
block_at (ItemIs (BlockIs block)) = Some block
block_at (ItemIs (PadIs name)) = None

-- the pad that a line says
abbrev pub pad_at : Said → Option (List ℕ)
pad_at (CountIs k said) = None
pad_at (ItemIs (BlockIs block)) = None
pad_at (ItemIs (PadIs name)) = Some name

-- the first of two that is there
abbrev pub or_else : {X : Type 0} → Option X → Option X → Option X
or_else None other = other
or_else (Some x) other = Some x

-- the first count of its kind
abbrev pub count_in : Counted → List Entry → Option Count
count_in which [] = None
count_in which (e ∷ more) = or_else (count_at which e.number e.said) (count_in which more)

-- the blocks that the lines say
abbrev pub blocks_in : List Entry → List RawBlock
blocks_in entries = filter_map (λ e. block_at e.said) entries

-- the pads that the lines say
abbrev pub pads_in : List Entry → List (List ℕ)
pads_in entries = filter_map (λ e. pad_at e.said) entries

-- ---- the faults of a line

-- a line's fault with the number of the line
abbrev pub fault_at : ℕ → LineFault → GsrcFault
fault_at n BadLine = faults.BadLine n
fault_at n (BadNumber fault) = faults.BadNumber n fault
fault_at n ZeroSide = faults.ZeroSide n

-- what a line says, or its fault, with the number of the line
abbrev pub entry_at : {A : Type 0} → ℕ → (A → Said) → Result A LineFault → Result Entry GsrcFault
entry_at n says (Ok x) = Ok (record { number = n; said = says x })
entry_at n says (Err fault) = Err (fault_at n fault)

-- a count line says its count, where no earlier line has done so
unfoldable pub count_after : Counted → List Entry → Line → Result Entry GsrcFault
count_after which earlier line = if is_some (count_in which earlier) then Err (faults.BadLine line.number)
    else entry_at line.number (CountIs which) (count_said (words (is_gap Colons) line.bytes))

-- what a line says that is a count line or none
abbrev pub entry_by : ℕ → List Entry → Line → Option Counted → Result Entry GsrcFault
entry_by scale earlier line (Some which) = count_after which earlier line
entry_by scale earlier line None = entry_at line.number ItemIs (plain_said scale line.bytes)

-- what a line says after earlier ones
abbrev pub entry_after : ℕ → List Entry → Line → Result Entry GsrcFault
entry_after scale earlier line = entry_by scale earlier line (counted_by line.bytes)

-- what the lines say, behind what the earlier ones said
abbrev pub entries_from : ℕ → List Entry → List Line → Result (List Entry) GsrcFault
entries_from scale earlier lines = read_from (entry_after scale) (λ past e. past ++ e ∷ []) earlier lines

-- ---- the end of the text

-- whether a kind is soft
abbrev pub is_soft_kind : Kind → Bool
is_soft_kind (kinds.Soft area min max) = true
is_soft_kind (kinds.Hard w h) = false

-- whether a block is soft
abbrev pub is_soft : RawBlock → Bool
is_soft block = is_soft_kind block.kind

-- the count says what was found
abbrev pub compared : {X : Type 0} → Count → ℕ → Result X GsrcFault → Result X GsrcFault
compared count found next = if count.said == found then next else Err (faults.CountDiffers count.line count.said found)

-- the counts are there, and each agrees with what was found
abbrev pub finished_by : ℕ → Option Count → Option Count → Option Count → GsrcBlocks → Result GsrcBlocks GsrcFault
finished_by last (Some soft) (Some hard) (Some terminals) out =
    compared soft (count_by is_soft out.blocks) (compared hard (count_by (λ b. not (is_soft b)) out.blocks) (compared terminals (length out.pads) (Ok out)))
finished_by last _ _ _ out = Err (faults.Truncated last)

-- the blocks and pads of the lines
abbrev pub out_of : List Entry → GsrcBlocks
out_of entries = record { blocks = blocks_in entries; pads = pads_in entries }

-- what all lines say, where their counts agree
abbrev pub finished : ℕ → List Entry → Result GsrcBlocks GsrcFault
finished last entries = finished_by last (count_in counts.Soft entries) (count_in counts.Hard entries) (count_in counts.Terminals entries) (out_of entries)

-- ---- the whole text

-- the number of the title's line and the lines behind it, where the title is one of this kind
abbrev pub opened : List ℕ → List Line → Result (ℕ × List Line) GsrcFault
opened kind [] = Err (faults.Truncated 0)
opened kind (title ∷ others) = if is_title kind title.bytes then Ok (title.number, others) else Err (faults.BadTitle title.number)

-- what the lines say behind their title
abbrev pub titled : ℕ → List Line → Result GsrcBlocks GsrcFault
titled scale all = opened (codes "blocks") all >>= λ o. (entries_from scale [] o.1 >>= finished (last_of o.0 o.1))

-- what a text is read as
unfoldable pub blocks_read : ℕ → List ℕ → Result GsrcBlocks GsrcFault
blocks_read scale text = titled scale (content_of text)

-- ---- what a function returned

-- The fault is that of the reading, unless memory ran out.
abbrev pub Fails : {X : Type 0} → GsrcFault → Result X GsrcFault → Type 0
Fails faults.NoMemory read = Unit {0}
Fails fault read = read ≡ Err fault

-- What a function returned is what reading gives, unless memory ran out.
abbrev pub Gives : {X : Type 0} → Result X GsrcFault → Result X GsrcFault → Type 0
Gives (Ok x) read = read ≡ Ok x
Gives (Err fault) read = Fails fault read
