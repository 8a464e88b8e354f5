-- What a run may answer, by its words and by the texts on the shelf: the status, what is stored and what is printed.
use Rattle.std.specs.Prelude.{◌≡◌, ◌⊎◌, ⊤, ℕ, List, [], Option, Result, Err, codes}
use Rattle.std.specs.Io.KnownBytes.{Appends}
use Rattle.sf_io.specs.Outside.{Contents, Rose, ShelfSeen, SinkSeen, Took}
use Rattle.sf_io.specs.declared.status.Status.{Status}
use Rattle.sf_io.specs.declared.status.Status.TheVariants.{Usage, ReadFault, WriteFault, NoMemory}
use Rattle.sf_pl_writer.specs.Length.{IsScale}
use Rattle.sf_options.specs.Options.{Command, plan, check, resume, measure, shape, gen}
use Rattle.sf_words.specs.Meaning.{Means, HasNoMeaning}
use Rattle.sf_designs.specs.declared.stop.Stop.{Stop}
use Rattle.sf_designs.specs.declared.work.Work.{Work}
use Rattle.sf_designs.specs.Outcome.{Refusal, IsRefusal, refused}
use Rattle.sf_program.specs.Planned.{IsPlanned, PlanRead}
use Rattle.sf_program.specs.Checked.{IsChecked, CheckRead}
use Rattle.sf_program.specs.Resumed.{IsContinued, ResumeRead}
use Rattle.sf_measuring.specs.Measured.{IsMeasured, MeasureRead}
use Rattle.sf_measuring.specs.Shaped.{IsShaped, ShapeRead}
use Rattle.sf_program.specs.Generated.{IsGenerated, GenRead}
use Rattle.sf_designs.specs.Stores.{Stored, AfterStores, Obeyed, StoppedAt}

-- what the command answers where no stage refuses; none but `plan`, `gen`, `resume` and `check` with `--rewrite` stores anything
abbrev pub IsOwnAnswer : Command → Option Contents → Status → List Stored → List ℕ → Type 0
IsOwnAnswer (plan o) before status stored printed = IsPlanned o before status stored printed
IsOwnAnswer (check o) before status stored printed = IsChecked o before status stored printed
IsOwnAnswer (resume o) before status stored printed = IsContinued o before status stored printed
IsOwnAnswer (measure o) before status stored printed = IsMeasured o before status printed × (stored ≡ [])
IsOwnAnswer (shape o) before status stored printed = IsShaped o before status printed × (stored ≡ [])
IsOwnAnswer (gen o) before status stored printed = IsGenerated o status stored printed

-- the first stage of the command that gives no value refuses so
abbrev pub CommandRefuses : Command → Option Contents → Refusal → Type 0
CommandRefuses (plan o) before why = PlanRead before o (Err why)
CommandRefuses (check o) before why = CheckRead before o (Err why)
CommandRefuses (resume o) before why = ResumeRead before o (Err why)
CommandRefuses (measure o) before why = MeasureRead before o (Err why)
CommandRefuses (shape o) before why = ShapeRead before o (Err why)
CommandRefuses (gen o) before why = GenRead o (Err why)

-- the command is obeyed: with an answer of its own, or a stop where a stage refuses, or for want of memory
abbrev pub Obeys : Command → Option Contents → Result Work Stop → Type 0
Obeys command before result = Obeyed (IsOwnAnswer command before) (CommandRefuses command before) result

-- such a refusal as an answer: its line is printed, and nothing is stored; where a file can't be loaded there is none
abbrev pub IsRefused : (Refusal → Type 0) → Status → List Stored → List ℕ → Type 0
IsRefused Refuses status stored printed = IsRefusal status × Refuses (refused status printed) × (stored ≡ [])

-- the answer of a command: its own, or a refusal of what it reads
abbrev pub CommandAnswer : Command → Option Contents → Status → List Stored → List ℕ → Type 0
CommandAnswer command before status stored printed =
    IsOwnAnswer command before status stored printed ⊎ IsRefused (CommandRefuses command before) status stored printed

-- the line of words that mean nothing
abbrev pub usage_line : List ℕ
usage_line = codes "error Usage\n"

-- the answer to these words, on a shelf that holds these texts
abbrev pub Answers : List (List ℕ) → Option Contents → Status → List Stored → List ℕ → Type 0
Answers words before status stored printed =
    (HasNoMeaning words × (status ≡ Usage) × (stored ≡ []) × (printed ≡ usage_line))
    ⊎ ((command : Command) × Means words command × CommandAnswer command before status stored printed)

-- the words mean a command that refuses so
abbrev pub RefusesWords : List (List ℕ) → Option Contents → Refusal → Type 0
RefusesWords words before why = (command : Command) × Means words command × CommandRefuses command before why

-- the scale of a command that writes lengths
abbrev pub HasScale : Command → Type 0
HasScale (plan o) = IsScale o.design.per_unit
HasScale (resume o) = IsScale o.design.per_unit
HasScale other = ⊤

-- the statuses of the program's own answers, where nothing failed
abbrev pub IsAnswer : Status → Type 0
IsAnswer ReadFault = ⊥
IsAnswer WriteFault = ⊥
IsAnswer NoMemory = ⊥
IsAnswer status = ⊤

-- the statuses at which nothing is stored and nothing printed
abbrev pub IsSilent : Status → Type 0
IsSilent status = (status ≡ ReadFault) ⊎ (status ≡ NoMemory)

-- an answer, which is stored and printed whole
pub record IsDone (words : List (List ℕ)) (before after : Option Contents) (taken taken_then : Option (List ℕ)) (status : Status) : Type 0 where
  pub stored : List Stored
  pub printed : List ℕ
  pub answer : Answers words before status stored printed
  pub stores : AfterStores before stored after
  pub prints : Appends taken taken_then printed

-- a store of these failed, which the shelf counted, and nothing is printed
pub record StoreFailed (stored : List Stored) (shelf shelf_then : ShelfSeen) (out out_then : SinkSeen) : Type 0 where
  pub counted : Rose shelf.store_faults shelf_then.store_faults
  pub stopped : StoppedAt shelf.holds stored shelf_then.holds
  pub unprinted : out_then.taken ≡ out.taken

-- all of these are stored, and a print failed, which the sink counted, so that a first part of the text is taken
pub record PrintFailed (stored : List Stored) (printed : List ℕ) (shelf shelf_then : ShelfSeen) (out out_then : SinkSeen) : Type 0 where
  pub counted : Rose out.faults out_then.faults
  pub stores : AfterStores shelf.holds stored shelf_then.holds
  pub part : Took out.taken out_then.taken printed

-- a store failed, or else a print
abbrev pub StoreOrPrintFailed : List Stored → List ℕ → ShelfSeen → ShelfSeen → SinkSeen → SinkSeen → Type 0
StoreOrPrintFailed stored printed shelf shelf_then out out_then =
    StoreFailed stored shelf shelf_then out out_then ⊎ PrintFailed stored printed shelf shelf_then out out_then

-- an answer of which a store or the print failed
pub record IsHalted (words : List (List ℕ)) (shelf shelf_then : ShelfSeen) (out out_then : SinkSeen) : Type 0 where
  pub status : Status
  pub stored : List Stored
  pub printed : List ℕ
  pub answer : Answers words shelf.holds status stored printed
  pub halted : StoreOrPrintFailed stored printed shelf shelf_then out out_then
