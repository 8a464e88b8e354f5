-- What a jobs file asks for, and why it is refused.
use Rattle.std.specs.Prelude.{◌≡◌, ℕ, ◌<◌, ◌≤◌, List, ◌∷◌, ◌++◌, All, length, Option}
use Rattle.std.specs.List.{AllZip}
use Rattle.sf_lex.specs.Scan.{Line}
use Rattle.sf_gsrc.specs.Blocks.{content_of}
use Rattle.sf_options.specs.Options.{PlanOptions}
use Rattle.sf_jobs.specs.Job.{Job, IsJob, IsNoJob, SaysJob}
use Rattle.sf_jobs.specs.declared.fault.JobsFault.{JobsFault}
use Rattle.sf_jobs.specs.declared.fault.JobsFault.TheVariants.{BadLine, TooMany, NoMemory}

-- the line is a job
abbrev pub HasJob : Line → Type 0
HasJob line = (job : Job) × IsJob line job

-- each line that is neither blank nor a comment is a job, and they are at most 256
pub record JobsStand (text : List ℕ) (asked : List (Option PlanOptions)) : Type 0 where
  pub each : AllZip SaysJob (content_of text) asked
  pub few : length asked ≤ 256

-- the first line that is no job has this number
pub record IsFirstBad (lines : List Line) (number : ℕ) : Type 0 where
  pub before : List Line
  pub line : Line
  pub after : List Line
  pub lines_are : lines ≡ before ++ line ∷ after
  pub good : All HasJob before
  pub bad : IsNoJob line
  pub number_is : number ≡ line.number

-- why a jobs file is refused: by its first line that is no job, or, where each is one, by their number
abbrev pub JobsRefused : List ℕ → JobsFault → Type 0
JobsRefused text (BadLine number) = IsFirstBad (content_of text) number
JobsRefused text (TooMany found) = All HasJob (content_of text) × (found ≡ length (content_of text)) × (256 < found)
JobsRefused text NoMemory = Unit {0}
