-- What is printed of a list of jobs, and how the batch program ends.
use Rattle.std.specs.Prelude.{ℕ, ◌+◌, Bool, true, false, cond, List, [], ◌∷◌, ◌++◌, codes}
use Rattle.std.specs.Fmt.{decimal}
use Rattle.sf_io.specs.declared.status.Status.{Status}
use Rattle.sf_io.specs.declared.status.Status.TheVariants.{Done, NoneFits, Usage, Open, No, BadInput, OverLimit, ReadFault, WriteFault, NoMemory}

-- how a job ended, and its text
pub record Told : Type 0 where
  pub status : Status
  pub text : List ℕ

-- the number of a status
abbrev pub status_number : Status → ℕ
status_number Done = 0
status_number NoneFits = 1
status_number Usage = 2
status_number Open = 3
status_number No = 4
status_number BadInput = 5
status_number OverLimit = 6
status_number ReadFault = 7
status_number WriteFault = 8
status_number NoMemory = 9

-- the line of a job
abbrev pub job_line : ℕ → Status → List ℕ
job_line number status = codes "job " ++ decimal number ++ codes " " ++ decimal (status_number status) ++ codes "\n"

-- the jobs from this number on, each with its line and its text
abbrev pub texts_from : ℕ → List Told → List ℕ
texts_from number [] = []
texts_from number (told ∷ more) = (job_line number told.status ++ told.text) ++ texts_from (number + 1) more

-- what is printed of jobs, in their order
abbrev pub batch_text : List Told → List ℕ
batch_text all = texts_from 0 all

-- the status of a search that ended
abbrev pub is_search_end : Status → Bool
is_search_end Done = true
is_search_end NoneFits = true
is_search_end Open = true
is_search_end other = false

-- the first status that is not that of such a search
abbrev pub batch_status : List Told → Status
batch_status [] = Done
batch_status (told ∷ more) = cond (is_search_end told.status) (batch_status more) told.status
