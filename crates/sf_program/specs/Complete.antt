-- When an answer is no refusal.
use Rattle.std.specs.Prelude.{⊤, Some, Result, Ok}
use Rattle.sf_io.specs.Outside.{Contents}
use Rattle.sf_io.specs.declared.status.Status.{Status}
use Rattle.sf_io.specs.declared.status.Status.TheVariants.{Done, NoneFits, Open, No, WriteFault, NoMemory}
use Rattle.sf_options.specs.Options.{Command, plan, check, resume, measure, shape, gen}
use Rattle.sf_designs.specs.Outcome.{Refusal}
use Rattle.sf_program.specs.Planned.{PlanRead}
use Rattle.sf_program.specs.Checked.{CheckRead}
use Rattle.sf_program.specs.Resumed.{ResumeRead}
use Rattle.sf_measuring.specs.Measured.{MeasureRead}
use Rattle.sf_measuring.specs.Shaped.{ShapeRead}
use Rattle.sf_program.specs.Generated.{GenRead}
use Rattle.sf_program.specs.Headline.{HasSearched}

-- the stage gives a value
abbrev pub HasValue : {X : Type 0} → (Result X Refusal → Type 0) → Type 0
HasValue {X} Read = (x : X) × Read (Ok x)

-- each text that the command reads stands for its output, and no stage refuses what it says
abbrev pub IsTaken : Command → Contents → Type 0
IsTaken (plan o) contents = HasValue (PlanRead (Some contents) o)
IsTaken (check o) contents = HasValue (CheckRead (Some contents) o)
IsTaken (resume o) contents = HasValue (ResumeRead (Some contents) o)
IsTaken (measure o) contents = HasValue (MeasureRead (Some contents) o)
IsTaken (shape o) contents = HasValue (ShapeRead (Some contents) o)
IsTaken (gen o) contents = HasValue (GenRead o)

-- the statuses of `check` and `measure`
abbrev pub EndsJudging : Status → Type 0
EndsJudging Done = ⊤
EndsJudging No = ⊤
EndsJudging status = ⊥

-- the statuses of `resume`: those of a search, and that the certificate is not valid
abbrev pub EndsResuming : Status → Type 0
EndsResuming Done = ⊤
EndsResuming NoneFits = ⊤
EndsResuming Open = ⊤
EndsResuming No = ⊤
EndsResuming status = ⊥

-- the status of `shape`
abbrev pub EndsPrinting : Status → Type 0
EndsPrinting Done = ⊤
EndsPrinting status = ⊥

-- the statuses of the command's own answers: no refusal, and no fault
abbrev pub IsOwnEnd : Command → Status → Type 0
IsOwnEnd (plan o) status = HasSearched status
IsOwnEnd (check o) status = EndsJudging status
IsOwnEnd (resume o) status = EndsResuming status
IsOwnEnd (measure o) status = EndsJudging status
IsOwnEnd (shape o) status = EndsPrinting status
IsOwnEnd (gen o) status = HasSearched status

-- such a status, or that a store or a print failed, or that the memory didn't suffice
abbrev pub MayEnd : Command → Status → Type 0
MayEnd command WriteFault = ⊤
MayEnd command NoMemory = ⊤
MayEnd command status = IsOwnEnd command status
