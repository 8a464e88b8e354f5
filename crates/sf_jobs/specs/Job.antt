-- A job of a jobs file: its line, the words that it stands for, and what these ask for.
use Rattle.std.specs.Prelude.{◌≡◌, ℕ, List, [], ◌∷◌, Option, Some, None, IfSome, MatchOption, cond, codes}
use Rattle.std.specs.Str.{bytes_eq, IsUtf8}
use Rattle.sf_lex.specs.Text.{words}
use Rattle.sf_lex.specs.Scan.{Line}
use Rattle.sf_lex.specs.Gap.{is_gap}
use Rattle.sf_lex.specs.declared.field.Gap.TheVariants.{Blanks}
use Rattle.sf_lex.specs.Whole.{whole_read}
use Rattle.sf_options.specs.Options.{Text, PlanOptions, plan}
use Rattle.sf_words.specs.Words.{IsValue}
use Rattle.sf_words.specs.Numbers.{IsWithin}
use Rattle.sf_words.specs.Meaning.{Means, HasNoMeaning}
use Rattle.sf_options.specs.declared.command.BoundsChoice.TheVariants.{Standard}

-- the five words of a job's line
pub record Job : Type 0 where
  pub blocks : Text
  pub nets : Text
  pub pl : Text
  pub wire : Text
  pub nodes : Text

-- the job that these words are, where they are five
unfoldable pub five_words : List Text → Option Job
five_words [] = None
five_words (blocks ∷ []) = None
five_words (blocks ∷ nets ∷ []) = None
five_words (blocks ∷ nets ∷ pl ∷ []) = None
five_words (blocks ∷ nets ∷ pl ∷ wire ∷ []) = None
five_words (blocks ∷ nets ∷ pl ∷ wire ∷ nodes ∷ []) = Some (record { blocks = blocks; nets = nets; pl = pl; wire = wire; nodes = nodes })
five_words (blocks ∷ nets ∷ pl ∷ wire ∷ nodes ∷ other ∷ more) = None

-- what a field says that may be left out by a hyphen
abbrev pub given : Text → Option Text
given field = cond (bytes_eq field (codes "-")) None (Some field)

-- the weight of the wires
abbrev pub IsWire : Text → ℕ → Type 0
IsWire text wire = whole_read 65_535 text ≡ Some wire

-- the budget, where one is given
abbrev pub IsBudget : Option Text → Option ℕ → Type 0
IsBudget None nodes = nodes ≡ None
IsBudget (Some text) nodes = MatchOption nodes ⊥ (λ n. IsWithin text n (1, 4_000_000))

-- The line is this job: it has five words, of which three are names of files, as UTF-8, the fourth is a weight from 0 to
-- 65,535, and the fifth a budget from 1 to 4,000,000 or a hyphen.
pub record IsJob (line : Line) (job : Job) : Type 0 where
  pub words_are : five_words (words (is_gap Blanks) line.bytes) ≡ Some job
  pub blocks : IsUtf8 job.blocks
  pub nets : IsUtf8 job.nets
  pub pl : IsUtf8 job.pl
  pub wire : (wire : ℕ) × IsWire job.wire wire
  pub nodes : (nodes : Option ℕ) × IsBudget (given job.nodes) nodes

-- an option and its value in front of other words, where it is given
abbrev pub with_option : Text → Option Text → List Text → List Text
with_option name None more = more
with_option name (Some value) more = name ∷ value ∷ more

-- the words that a job stands for, with the name of a certificate behind them
abbrev pub words_of_job : Job → Text → List Text
words_of_job job cert =
    codes "plan" ∷ codes "--format" ∷ codes "gsrc" ∷ codes "--blocks" ∷ job.blocks
    ∷ with_option (codes "--nets") (given job.nets) (with_option (codes "--pl") (given job.pl)
    (codes "--wire-weight" ∷ job.wire ∷ with_option (codes "--nodes") (given job.nodes) (codes "--cert" ∷ cert ∷ [])))

-- the same options with another certificate's name
abbrev pub with_cert : PlanOptions → Text → PlanOptions
with_cert o cert = record o { cert = cert }

-- what a job's words mean, whatever the certificate's name, or that they mean nothing
abbrev pub Asks : Job → Option PlanOptions → Type 0
Asks job None = (cert : Text) → IsValue cert → HasNoMeaning (words_of_job job cert)
Asks job (Some o) = (cert : Text) → IsValue cert → Means (words_of_job job cert) (plan (with_cert o cert))

-- a search by one worker from no plan, by the standard bounds, in the unit of the files and with no placement to store
pub record IsPlain (o : PlanOptions) : Type 0 where
  pub per_unit : o.design.per_unit ≡ 1
  pub pl_out : o.pl_out ≡ None
  pub workers : o.workers ≡ 1
  pub starts : o.starts.count ≡ 0
  pub begin : o.begin ≡ None
  pub bounds : o.bounds ≡ Standard

-- the line is a job, and its words mean this
pub record SaysJob (line : Line) (asked : Option PlanOptions) : Type 0 where
  pub job : Job
  pub is_job : IsJob line job
  pub asks : Asks job asked
  pub plain : IfSome asked IsPlain

-- the line is no job
abbrev pub IsNoJob : Line → Type 0
IsNoJob line = (job : Job) → IsJob line job → ⊥
