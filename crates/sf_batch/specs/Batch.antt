-- The answer of the batch program, by its words and by the texts on the shelf: the status, and what is printed.
use Rattle.std.specs.Prelude.{◌≡◌, ◌⊎◌, ℕ, ◌+◌, ◌-◌, ◌^◌, ◌≤◌, min, List, [], ◌∷◌, length, codes, Option, Result, Ok, Err}
use Rattle.std.specs.List.{AllZip}
use Rattle.sf_io.specs.Outside.{Contents, Rose, ShelfSeen}
use Rattle.sf_io.specs.declared.status.Status.{Status}
use Rattle.sf_io.specs.declared.status.Status.TheVariants.{Usage, ReadFault, NoMemory}
use Rattle.sf_gsrc.specs.Blocks.{content_of}
use Rattle.sf_options.specs.Options.{Text, PlanOptions}
use Rattle.sf_jobs.specs.Jobs.{JobsStand, JobsRefused}
use Rattle.sf_jobs.specs.declared.fault.JobsFault.TheVariants.{BadLine, TooMany}
use Rattle.sf_jobs.specs.Team.{TeamOptions, TeamSays}
use Rattle.sf_jobs.specs.Told.{Told, batch_status, batch_text}
use Rattle.sf_program.specs.Answer.{usage_line}
use Rattle.sf_designs.specs.Outcome.{Refusal, refused, lost, IsRefusal, Then}
use Rattle.sf_designs.specs.Reading.{TextRead}
use Rattle.sf_designs.specs.Refusals.{bad_input, over_limit}
use Rattle.sf_batch.specs.Alone.{LineComesTo}

-- why the text of a jobs file is refused: a line that is no job, or too many jobs
abbrev pub JobsTextRefuses : List ℕ → Refusal → Type 0
JobsTextRefuses text why =
    ((number : ℕ) × JobsRefused text (BadLine number) × (why ≡ bad_input (codes "jobs") number (codes "BadLine" ∷ [])))
    ⊎ ((found : ℕ) × JobsRefused text (TooMany found) × (why ≡ over_limit (codes "jobs") found 256))

-- what the text of a jobs file asks for
abbrev pub JobsTextRead : List ℕ → Result (List (Option PlanOptions)) Refusal → Type 0
JobsTextRead text (Ok asked) = JobsStand text asked
JobsTextRead text (Err why) = JobsTextRefuses text why

-- what the jobs file of this name asks for
abbrev pub JobsRead : Option Contents → Text → Result (List (Option PlanOptions)) Refusal → Type 0
JobsRead held name = Then (TextRead held name) JobsTextRead

-- one for a job that ended with a failed load
abbrev pub lost_one : Status → ℕ
lost_one ReadFault = 1
lost_one status = 0

-- how many jobs ended with a failed load
abbrev pub lost_jobs : List Told → ℕ
lost_jobs [] = 0
lost_jobs (told ∷ more) = lost_one told.status + lost_jobs more

-- the count is greater than before by at least so many, or stands at the greatest number of u64
abbrev pub RoseBy : ℕ → ℕ → ℕ → Type 0
RoseBy many before now = min (before + many) (2 ^ 64 - 1) ≤ now

-- Each job line of the text, in order, has come to what it comes to by itself. Printed are all of them, each behind a line with its number and
-- status; the status is the first that isn't the end of a search. The jobs that lost a file are no more than the loads that failed.
pub record IsBatch (shelf shelf_then : ShelfSeen) (text : List ℕ) (status : Status) (printed : List ℕ) : Type 0 where
  pub all : List Told
  pub each : AllZip (LineComesTo shelf.holds) (content_of text) all
  pub few : length all ≤ 256
  pub status_is : status ≡ batch_status all
  pub printed_is : printed ≡ batch_text all
  pub counted : RoseBy (lost_jobs all) shelf.load_faults shelf_then.load_faults

-- the jobs file is refused, by its one line
abbrev pub IsFileRefused : Option Contents → Text → Status → List ℕ → Type 0
IsFileRefused held name status printed = IsRefusal status × JobsRead held name (Err (refused status printed))

-- the jobs file can't be loaded, and nothing is printed
pub record IsFileLost (shelf shelf_then : ShelfSeen) (name : Text) (status : Status) (printed : List ℕ) : Type 0 where
  pub loses : JobsRead shelf.holds name (Err lost)
  pub status_is : status ≡ ReadFault
  pub silent : printed ≡ []
  pub counted : Rose shelf.load_faults shelf_then.load_faults

-- the jobs file is a batch, or it is refused or lost
abbrev pub FileAnswers : ShelfSeen → ShelfSeen → Text → Status → List ℕ → Type 0
FileAnswers shelf shelf_then name status printed =
    ((text : List ℕ) × TextRead shelf.holds name (Ok text) × IsBatch shelf shelf_then text status printed)
    ⊎ IsFileRefused shelf.holds name status printed
    ⊎ IsFileLost shelf shelf_then name status printed

-- no words of the batch program
abbrev pub MeanNoTeam : List Text → Type 0
MeanNoTeam words = (o : TeamOptions) → TeamSays words o → ⊥

-- the answer to these words: that they mean nothing, what their jobs file comes to, or silence where the memory doesn't suffice
abbrev pub BatchAnswers : List Text → ShelfSeen → ShelfSeen → Status → List ℕ → Type 0
BatchAnswers words shelf shelf_then status printed =
    (MeanNoTeam words × (status ≡ Usage) × (printed ≡ usage_line))
    ⊎ ((o : TeamOptions) × TeamSays words o × FileAnswers shelf shelf_then o.jobs status printed)
    ⊎ ((status ≡ NoMemory) × (printed ≡ []))
