-- Commands with their options, as contracts see them: each text as its bytes.
use Rattle.std.specs.Prelude.{ℕ, Bool, List, Option}
use Rattle.sf_options.specs.declared.command.BoundsChoice.{BoundsChoice}
use Rattle.sf_options.specs.declared.command.Kinds.{Kinds}

-- a text is the list of its bytes
abbrev pub Text : Type 0
Text = List ℕ

-- the files that tell a design, by the format that was chosen
pub data Input : Type 0 where
  gsrc : (blocks : Text) (nets pl : Option Text) → Input
  yal : (file : Text) → Input

-- The options that tell a design: its files, how many scaled units one unit of the file is, whether hard blocks keep
-- their sides, the greatest number of shapes of a block, and the sides of the outline in scaled units.
pub record DesignOptions : Type 0 where
  pub input : Input
  pub per_unit : ℕ
  pub is_fixed : Bool
  pub shapes : ℕ
  pub width : ℕ
  pub height : ℕ

-- what counts in a cost, and how much: not both are 0; and the file that tells what each net counts, if one does
pub record WeightOptions : Type 0 where
  pub area : ℕ
  pub wire : ℕ
  pub net_weights : Option Text

-- The walks that a search may begin with: how many there are, how many trials each has, the seed of the first, and how
-- many trials make better what each finds, if that is told.
pub record StartOptions : Type 0 where
  pub count : ℕ
  pub moves : ℕ
  pub seed : ℕ
  pub improve : Option ℕ

-- the options of `plan`; a long search may have a greater budget, and one may begin with the placement of a file
pub record PlanOptions : Type 0 where
  pub design : DesignOptions
  pub weights : WeightOptions
  pub cert : Text
  pub pl_out : Option Text
  pub workers : ℕ
  pub nodes : Option ℕ
  pub is_long : Bool
  pub starts : StartOptions
  pub begin : Option Text
  pub bounds : BoundsChoice

-- the options of `check`; the certificate of a long search may have a longer text
pub record CheckOptions : Type 0 where
  pub design : DesignOptions
  pub weights : WeightOptions
  pub cert : Text
  pub rewrite : Option Text
  pub is_long : Bool
  pub bounds : BoundsChoice

-- the options of `resume`: those of a certificate that is read, and those of the search that goes on from it
pub record ResumeOptions : Type 0 where
  pub design : DesignOptions
  pub weights : WeightOptions
  pub cert : Text
  pub cert_out : Text
  pub pl_out : Option Text
  pub workers : ℕ
  pub nodes : ℕ
  pub is_long : Bool
  pub bounds : BoundsChoice

-- the options of `measure`
pub record MeasureOptions : Type 0 where
  pub design : DesignOptions
  pub weights : WeightOptions
  pub placed : Text

-- the options of `shape`
pub record ShapeOptions : Type 0 where
  pub design : DesignOptions
  pub expr : Text

-- the options of `gen`
pub record GenOptions : Type 0 where
  pub seed : ℕ
  pub count : ℕ
  pub kinds : Kinds
  pub nodes : Option ℕ
  pub out : Text

-- a command with its options
pub data Command : Type 0 where
  plan : PlanOptions → Command
  check : CheckOptions → Command
  resume : ResumeOptions → Command
  measure : MeasureOptions → Command
  shape : ShapeOptions → Command
  gen : GenOptions → Command
