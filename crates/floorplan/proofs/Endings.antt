-- What the clauses of a run say by its status is how it may end.
use Rattle.std.proofs.Common.{◌≡◌, ℕ, List, None, refl}
use Rattle.sf_io.specs.declared.status.Status.{Status}
use Rattle.sf_io.specs.declared.status.Status.TheVariants.{Done, NoneFits, Usage, Open, No, BadInput, OverLimit, ReadFault, WriteFault, NoMemory}
use Rattle.sf_program.specs.Answer.{IsAnswer, IsDone, RefusesWords}
use Rattle.sf_designs.specs.Outcome.{lost}
use Rattle.floorplan.specs.Ending.{HasAnswer, MayEnd}

-- an answer that is done is one that the words have
pub done-answer : (words : List (List ℕ)) (status : Status) → IsDone words None None None None status → HasAnswer words status
done-answer words status done = (done.stored, done.printed, done.answer)

-- a status that is an answer's, that of a lost file, or that of an answer which was halted, is one with which the words may end
pub may-end : (words : List (List ℕ)) (status : Status) → (IsAnswer status → IsDone words None None None None status) → (status ≡ ReadFault → RefusesWords words None lost) → (status ≡ WriteFault → (halted : Status) × HasAnswer words halted) → MayEnd words status
may-end words Done done read written = done-answer words Done (done tt)
may-end words NoneFits done read written = done-answer words NoneFits (done tt)
may-end words Usage done read written = done-answer words Usage (done tt)
may-end words Open done read written = done-answer words Open (done tt)
may-end words No done read written = done-answer words No (done tt)
may-end words BadInput done read written = done-answer words BadInput (done tt)
may-end words OverLimit done read written = done-answer words OverLimit (done tt)
may-end words ReadFault done read written = read refl
may-end words WriteFault done read written = written refl
may-end words NoMemory done read written = tt
