-- The lines that are printed where an input is refused.
use Rattle.std.specs.Prelude.{ℕ, List, [], ◌∷◌, ◌++◌, codes}
use Rattle.std.specs.Fmt.{decimal}
use Rattle.sf_lex.specs.declared.number.NumberFault.{NumberFault}
use Rattle.sf_lex.specs.declared.number.NumberFault.TheVariants.{NotNumber, TooManyDigits, NotWhole, TooLarge}
use Rattle.sf_parts.specs.declared.fault.BuildFault.{BuildFault}
use Rattle.sf_parts.specs.declared.fault.BuildFault.TheVariants as build
use Rattle.sf_parts.specs.declared.fault.Limit.{Limit}
use Rattle.sf_parts.specs.declared.fault.Limit.TheVariants.{Blocks, Pads, Nets, Pins, Side, Area, Coordinate}
use Rattle.sf_gsrc.specs.declared.fault.GsrcFault.{GsrcFault}
use Rattle.sf_gsrc.specs.declared.fault.GsrcFault.TheVariants as gsrc
use Rattle.sf_gsrc.specs.declared.fault.JoinFault.{JoinFault}
use Rattle.sf_gsrc.specs.declared.fault.JoinFault.TheVariants as join
use Rattle.sf_gsrc.specs.declared.fault.WeightFault.{WeightFault}
use Rattle.sf_gsrc.specs.declared.fault.WeightFault.TheVariants as weight
use Rattle.sf_yal.specs.declared.fault.YalFault.{YalFault}
use Rattle.sf_yal.specs.declared.fault.YalFault.TheVariants as yal
use Rattle.sf_designs.specs.Outcome.{Refusal, refused}
use Rattle.sf_io.specs.declared.status.Status.TheVariants.{BadInput, OverLimit}

-- words with one space between two, and LF at the end
abbrev pub line_of : List (List ℕ) → List ℕ
line_of [] = 10 ∷ []
line_of (word ∷ []) = word ++ 10 ∷ []
line_of (word ∷ next ∷ words) = word ++ 32 ∷ line_of (next ∷ words)

-- a text that stands for nothing: the kind of text, the line, and the fault with what it carries
abbrev pub bad_input : List ℕ → ℕ → List (List ℕ) → Refusal
bad_input source line fault = refused BadInput (line_of (codes "error" ∷ codes "BadInput" ∷ source ∷ decimal line ∷ fault))

-- a quantity past its limit
abbrev pub over_limit : List ℕ → ℕ → ℕ → Refusal
over_limit quantity found limit = refused OverLimit (line_of (codes "error" ∷ codes "OverLimit" ∷ quantity ∷ decimal found ∷ decimal limit ∷ []))

-- what is wrong with a number, in a word
abbrev pub number_fault : NumberFault → List ℕ
number_fault NotNumber = codes "NotNumber"
number_fault TooManyDigits = codes "TooManyDigits"
number_fault NotWhole = codes "NotWhole"
number_fault TooLarge = codes "TooLarge"

-- of want of memory, which has no line and is not met
abbrev pub no_line : Refusal
no_line = refused BadInput []

-- the first fault of a GSRC text
abbrev pub gsrc_refusal : List ℕ → GsrcFault → Refusal
gsrc_refusal source (gsrc.BadTitle line) = bad_input source line (codes "BadTitle" ∷ [])
gsrc_refusal source (gsrc.BadLine line) = bad_input source line (codes "BadLine" ∷ [])
gsrc_refusal source (gsrc.BadNumber line fault) = bad_input source line (codes "BadNumber" ∷ number_fault fault ∷ [])
gsrc_refusal source (gsrc.CountDiffers line said found) = bad_input source line (codes "CountDiffers" ∷ decimal said ∷ decimal found ∷ [])
gsrc_refusal source (gsrc.BadDegree line said found) = bad_input source line (codes "BadDegree" ∷ decimal said ∷ decimal found ∷ [])
gsrc_refusal source (gsrc.ZeroSide line) = bad_input source line (codes "ZeroSide" ∷ [])
gsrc_refusal source (gsrc.Truncated line) = bad_input source line (codes "Truncated" ∷ [])
gsrc_refusal source gsrc.NoMemory = no_line

-- the first fault of a text of weights
abbrev pub weight_refusal : WeightFault → Refusal
weight_refusal (weight.BadLine line) = bad_input (codes "weights") line (codes "BadLine" ∷ [])
weight_refusal (weight.BadNumber line fault) = bad_input (codes "weights") line (codes "BadNumber" ∷ number_fault fault ∷ [])
weight_refusal (weight.UnknownNet line net) = bad_input (codes "weights") line (codes "UnknownNet" ∷ decimal net ∷ [])
weight_refusal (weight.RepeatedNet line net) = bad_input (codes "weights") line (codes "RepeatedNet" ∷ decimal net ∷ [])
weight_refusal weight.NoMemory = no_line

-- the first fault of a YAL text
abbrev pub yal_refusal : YalFault → Refusal
yal_refusal (yal.Truncated line) = bad_input (codes "yal") line (codes "Truncated" ∷ [])
yal_refusal (yal.BadStatement line) = bad_input (codes "yal") line (codes "BadStatement" ∷ [])
yal_refusal (yal.BadNumber line fault) = bad_input (codes "yal") line (codes "BadNumber" ∷ number_fault fault ∷ [])
yal_refusal (yal.ZeroSide line) = bad_input (codes "yal") line (codes "ZeroSide" ∷ [])
yal_refusal yal.NoParent = bad_input (codes "yal") 0 (codes "NoParent" ∷ [])
yal_refusal (yal.TwoParents line) = bad_input (codes "yal") line (codes "TwoParents" ∷ [])
yal_refusal (yal.UnknownModule line name) = bad_input (codes "yal") line (codes "UnknownModule" ∷ name ∷ [])
yal_refusal yal.NoMemory = no_line

-- a pl file that places a name twice
abbrev pub join_refusal : JoinFault → Refusal
join_refusal (join.PlacedTwice name) = bad_input (codes "design") 0 (codes "DuplicateName" ∷ name ∷ [])
join_refusal join.NoMemory = no_line

-- the quantity that passes its limit, in a word
abbrev pub limit_word : Limit → List ℕ
limit_word Blocks = codes "blocks"
limit_word Pads = codes "pads"
limit_word Nets = codes "nets"
limit_word Pins = codes "pins"
limit_word Side = codes "side"
limit_word Area = codes "area"
limit_word Coordinate = codes "coordinate"

-- a fault of the design as a whole
abbrev pub design_fault : List (List ℕ) → Refusal
design_fault fault = bad_input (codes "design") 0 fault

-- why parts become no design
abbrev pub build_refusal : BuildFault → Refusal
build_refusal (build.DuplicateName name) = design_fault (codes "DuplicateName" ∷ name ∷ [])
build_refusal (build.UnknownName name) = design_fault (codes "UnknownName" ∷ name ∷ [])
build_refusal build.NoBlocks = design_fault (codes "NoBlocks" ∷ [])
build_refusal (build.NoShape name) = design_fault (codes "NoShape" ∷ name ∷ [])
build_refusal (build.OverLimit quantity found limit) = over_limit (limit_word quantity) found limit
build_refusal (build.MissingPlace name) = design_fault (codes "MissingPlace" ∷ name ∷ [])
build_refusal build.NoMemory = no_line
