-- What the words mean: a command with its options and defaults.
use Rattle.std.specs.Prelude.{◌≡◌, ◌+◌, ◌⊎◌, ◌<◌, false, cond, List, [], ◌∷◌, Option, Some, None, MatchOption, is_some, codes}
use Rattle.std.specs.Str.{bytes_eq}
use Rattle.sf_words.specs.declared.options.Mode.{Mode}
use Rattle.sf_words.specs.declared.options.Mode.TheVariants.{Plan, Check, Resume, Measure, Shape, Gen}
use Rattle.sf_words.specs.declared.options.Key.{Key}
use Rattle.sf_words.specs.declared.options.Key.TheVariants.{Format, Blocks, Nets, Pl, Yal, PerUnit, Fixed, Shapes, Outline, AreaWeight, WireWeight, NetWeights, Cert, CertOut, PlOut, Rewrite, Workers, Nodes, Long, Starts, Moves, StartSeed, Improve, Begin, Bounds, Placed, Expr, Seed, Count, Kinds as KindsKey, Out}
use Rattle.sf_options.specs.Options.{Text, Input, gsrc, yal, DesignOptions, WeightOptions, StartOptions, PlanOptions, CheckOptions, ResumeOptions, MeasureOptions, ShapeOptions, GenOptions, Command, plan, check, resume, measure, shape, gen}
use Rattle.sf_words.specs.Table.{key_text}
use Rattle.sf_words.specs.Words.{Token, key_of, value_of, HasForm}
use Rattle.sf_words.specs.Numbers.{SaysNumber, SaysIfGiven, SaysNodes, improve_range}
use Rattle.sf_words.specs.Outline.{OutlineSays}
use Rattle.sf_options.specs.declared.command.BoundsChoice.{BoundsChoice}
use Rattle.sf_options.specs.declared.command.BoundsChoice.TheVariants.{Standard, Strong, Pair, Fit, Both}
use Rattle.sf_options.specs.declared.command.Kinds.{Kinds}
use Rattle.sf_options.specs.declared.command.Kinds.TheVariants.{Hard, Mixed}
use Rattle.sf_options.specs.Defaults.{default_bounds, default_kinds}

-- the text that each option has, where it is given
abbrev pub Values : Type 0
Values = Key → Option Text

-- the texts that these options have
abbrev pub value_in : List Token → Values
value_in [] key = None
value_in (token ∷ tokens) key = cond (bytes_eq (key_text (key_of token)) (key_text key)) (Some (value_of token)) (value_in tokens key)

-- an option of the other format isn't there
abbrev pub InputSays : Values → Input → Type 0
InputSays v (gsrc blocks nets pl) = (v Format ≡ Some (codes "gsrc")) × (v Blocks ≡ Some blocks) × (v Nets ≡ nets) × (v Pl ≡ pl) × (v Yal ≡ None)
InputSays v (yal file) = (v Format ≡ Some (codes "yal")) × (v Yal ≡ Some file) × (v Blocks ≡ None) × (v Nets ≡ None) × (v Pl ≡ None)

-- what the options of a design say
pub record DesignSays (v : Values) (o : DesignOptions) : Type 0 where
  pub input : InputSays v o.input
  pub per_unit : SaysNumber PerUnit (v PerUnit) o.per_unit
  pub is_unit : (o.per_unit ≡ 1) ⊎ (o.per_unit ≡ 10) ⊎ (o.per_unit ≡ 100) ⊎ (o.per_unit ≡ 1000)
  pub is_fixed : o.is_fixed ≡ is_some (v Fixed)
  pub shapes : SaysNumber Shapes (v Shapes) o.shapes
  pub outline : OutlineSays o.per_unit (v Outline) o.width o.height

-- what the options of the weights say
pub record WeightsSay (v : Values) (o : WeightOptions) : Type 0 where
  pub area : SaysNumber AreaWeight (v AreaWeight) o.area
  pub wire : SaysNumber WireWeight (v WireWeight) o.wire
  pub some : 0 < o.area + o.wire
  pub net_weights : v NetWeights ≡ o.net_weights

-- what the options of the walks say; where none are asked for, and no placement is given to begin with, there is nothing to be made better
pub record StartsSay (v : Values) (o : StartOptions) : Type 0 where
  pub count : SaysNumber Starts (v Starts) o.count
  pub moves : SaysNumber Moves (v Moves) o.moves
  pub seed : SaysNumber StartSeed (v StartSeed) o.seed
  pub improve : SaysIfGiven improve_range (v Improve) o.improve
  pub asked : v Starts ≡ None → v Begin ≡ None → v Improve ≡ None

-- how a bound is written
abbrev pub bounds_text : BoundsChoice → Text
bounds_text Standard = codes "standard"
bounds_text Strong = codes "strong"
bounds_text Pair = codes "pair"
bounds_text Fit = codes "fit"
bounds_text Both = codes "both"

-- what the option says, given or not
abbrev pub BoundsSay : Option Text → BoundsChoice → Type 0
BoundsSay None bounds = bounds ≡ default_bounds
BoundsSay (Some text) bounds = text ≡ bounds_text bounds

-- what the options of `plan` say
pub record PlanSays (v : Values) (o : PlanOptions) : Type 0 where
  pub design : DesignSays v o.design
  pub weights : WeightsSay v o.weights
  pub cert : v Cert ≡ Some o.cert
  pub pl_out : v PlOut ≡ o.pl_out
  pub workers : SaysNumber Workers (v Workers) o.workers
  pub nodes : SaysNodes o.is_long (v Nodes) o.nodes
  pub is_long : o.is_long ≡ is_some (v Long)
  pub starts : StartsSay v o.starts
  pub begin : v Begin ≡ o.begin
  pub bounds : BoundsSay (v Bounds) o.bounds

-- what the options of `check` say
pub record CheckSays (v : Values) (o : CheckOptions) : Type 0 where
  pub design : DesignSays v o.design
  pub weights : WeightsSay v o.weights
  pub cert : v Cert ≡ Some o.cert
  pub rewrite : v Rewrite ≡ o.rewrite
  pub is_long : o.is_long ≡ is_some (v Long)
  pub bounds : BoundsSay (v Bounds) o.bounds

-- what the options of `resume` say
pub record ResumeSays (v : Values) (o : ResumeOptions) : Type 0 where
  pub design : DesignSays v o.design
  pub weights : WeightsSay v o.weights
  pub cert : v Cert ≡ Some o.cert
  pub cert_out : v CertOut ≡ Some o.cert_out
  pub pl_out : v PlOut ≡ o.pl_out
  pub workers : SaysNumber Workers (v Workers) o.workers
  pub nodes : SaysNodes o.is_long (v Nodes) (Some o.nodes)
  pub is_long : o.is_long ≡ is_some (v Long)
  pub bounds : BoundsSay (v Bounds) o.bounds

-- what the options of `measure` say
pub record MeasureSays (v : Values) (o : MeasureOptions) : Type 0 where
  pub design : DesignSays v o.design
  pub weights : WeightsSay v o.weights
  pub placed : v Placed ≡ Some o.placed

-- what the options of `shape` say
pub record ShapeSays (v : Values) (o : ShapeOptions) : Type 0 where
  pub design : DesignSays v o.design
  pub expr : v Expr ≡ Some o.expr

-- how the kinds are written
abbrev pub kinds_text : Kinds → Text
kinds_text Hard = codes "hard"
kinds_text Mixed = codes "mixed"

-- what the option says, given or not
abbrev pub KindsSay : Option Text → Kinds → Type 0
KindsSay None kinds = kinds ≡ default_kinds
KindsSay (Some text) kinds = text ≡ kinds_text kinds

-- what the options of `gen` say
pub record GenSays (v : Values) (o : GenOptions) : Type 0 where
  pub seed : SaysNumber Seed (v Seed) o.seed
  pub count : SaysNumber Count (v Count) o.count
  pub kinds : KindsSay (v KindsKey) o.kinds
  pub nodes : SaysNodes false (v Nodes) o.nodes
  pub out : v Out ≡ Some o.out

-- the word that stands for it
abbrev pub mode_of : Command → Mode
mode_of (plan o) = Plan
mode_of (check o) = Check
mode_of (resume o) = Resume
mode_of (measure o) = Measure
mode_of (shape o) = Shape
mode_of (gen o) = Gen

-- the texts of the options say this command
abbrev pub Says : Values → Command → Type 0
Says v (plan o) = PlanSays v o
Says v (check o) = CheckSays v o
Says v (resume o) = ResumeSays v o
Says v (measure o) = MeasureSays v o
Says v (shape o) = ShapeSays v o
Says v (gen o) = GenSays v o

-- The words mean this command: they are its word and some of its options, and the texts of these say what it asks for.
abbrev pub Means : List Text → Command → Type 0
Means words command = (tokens : List Token) × HasForm words (mode_of command) tokens × Says (value_in tokens) command

-- the words mean no command
abbrev pub HasNoMeaning : List Text → Type 0
HasNoMeaning words = (command : Command) → Means words command → ⊥

-- what was read is, as a contract sees it, what the texts say; and where nothing was read, they say nothing
abbrev pub IsReading : {W O : Type 0} → (O → Type 0) → (W → O) → Option W → Type 0
IsReading says seen result = MatchOption result ((o : _) → says o → ⊥) (λ w. says (seen w))
