-- How far a batch is.
use Rattle.std.specs.Prelude.{◌≡◌, ⊤, ℕ, List, All, Some, Option, slice_get}
use Rattle.std.specs.List.{AllZip}
use Rattle.sf_io.specs.Outside.{Contents, Rose}
use Rattle.sf_io.specs.declared.status.Status.TheVariants.{ReadFault}
use Rattle.sf_lex.specs.Scan.{Line}
use Rattle.sf_jobs.specs.Told.{Told}
use Rattle.sf_jobs.specs.Seen.{told_seen}
use Rattle.sf_batch.specs.declared.job.BuiltJob.{BuiltJob}
use Rattle.sf_batch.specs.declared.begun.Begun.{Begun}
use Rattle.sf_batch.specs.declared.begun.Begun.TheVariants as begun
use Rattle.sf_batch.specs.Alone.{LineComesTo}
use Rattle.sf_batch.specs.Built.{StandsFor}
use Rattle.sf_batch.specs.Batch.{lost_jobs, RoseBy}

-- a job of this number and line as it begins: it is told at once, or built
abbrev pub Begins : Option Contents → ℕ → Line → Begun → Type 0
Begins held number line (begun.Told answer) = LineComesTo held line (told_seen answer)
Begins held number line (begun.Built job) = (job.number ≡ number) × StandsFor held line job

-- a failed load is told only where one was counted
abbrev pub IsCounted : ℕ → ℕ → Begun → Type 0
IsCounted faults faults_then (begun.Told answer) = answer.status ≡ ReadFault → Rose faults faults_then
IsCounted faults faults_then (begun.Built job) = ⊤

-- the built job stands for the line of its number
abbrev pub FitsLine : Option Contents → List Line → BuiltJob → Type 0
FitsLine held lines job = (line : Line) × (slice_get lines job.number ≡ Some line) × StandsFor held line job

-- each line has what it comes to, and the jobs that lost a file are no more than the loads that failed
pub record AreDone (held : Option Contents) (lines : List Line) (faults faults_then : ℕ) (all : List Told) : Type 0 where
  pub each : AllZip (LineComesTo held) lines all
  pub counted : RoseBy (lost_jobs all) faults faults_then

-- so it is at every moment, since a job may always end for want of memory; and each job that the team was given stands for its line
pub record IsUnderWay (held : Option Contents) (lines : List Line) (faults faults_then : ℕ) (all : List Told) (given : List BuiltJob) : Type 0 where
  pub done : AreDone held lines faults faults_then all
  pub given_fit : All (FitsLine held lines) given
