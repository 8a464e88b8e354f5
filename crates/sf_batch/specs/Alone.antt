-- What a job of a jobs file comes to by itself.
use Rattle.std.specs.Prelude.{◌≡◌, ◌⊎◌, List, [], Option}
use Rattle.sf_io.specs.Outside.{Contents}
use Rattle.sf_io.specs.declared.status.Status.{Status}
use Rattle.sf_io.specs.declared.status.Status.TheVariants.{ReadFault, NoMemory}
use Rattle.sf_lex.specs.Scan.{Line}
use Rattle.sf_options.specs.Options.{Text}
use Rattle.sf_words.specs.Words.{IsValue}
use Rattle.sf_jobs.specs.Job.{Job, IsJob, words_of_job}
use Rattle.sf_jobs.specs.Told.{Told}
use Rattle.sf_program.specs.Answer.{Answers, RefusesWords}
use Rattle.sf_designs.specs.Outcome.{lost}
use Rattle.sf_designs.specs.Stores.{Stored}
use Rattle.sf_designs.specs.declared.stop.Stop.{Stop}
use Rattle.sf_designs.specs.declared.stop.Stop.TheVariants.{Refused}
use Rattle.sf_designs.specs.declared.stop.Stop.TheVariants as stop

-- `plan` answers the words of the job with this status and prints this text, whatever the name of its certificate is; what it would store is left out
abbrev pub PlanTells : Option Contents → Job → Told → Type 0
PlanTells held job told = (cert : Text) → IsValue cert → (stored : List Stored) × Answers (words_of_job job cert) held told.status stored told.text

-- a file that the words name can't be loaded, and nothing is printed
pub record LosesFile (held : Option Contents) (job : Job) (told : Told) : Type 0 where
  pub status_is : told.status ≡ ReadFault
  pub silent : told.text ≡ []
  pub loses : (cert : Text) → IsValue cert → RefusesWords (words_of_job job cert) held lost

-- the memory didn't suffice, and nothing is printed
abbrev pub LacksMemory : Told → Type 0
LacksMemory told = (told.status ≡ NoMemory) × (told.text ≡ [])

-- what a job comes to by itself, on a shelf that holds these texts
abbrev pub ComesTo : Option Contents → Job → Told → Type 0
ComesTo held job told = PlanTells held job told ⊎ LosesFile held job told ⊎ LacksMemory told

-- what the job of this line comes to
abbrev pub LineComesTo : Option Contents → Line → Told → Type 0
LineComesTo held line told = (job : Job) × IsJob line job × ComesTo held job told

-- nothing is printed
abbrev pub silent : Status → Told
silent status = record { status = status; text = [] }

-- what is told where a stage stops: the line of a refusal, or nothing
abbrev pub told_of : Stop → Told
told_of (Refused status line) = record { status = status; text = line.items }
told_of stop.ReadFault = silent ReadFault
told_of stop.NoMemory = silent NoMemory
