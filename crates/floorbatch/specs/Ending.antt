-- How a run over the files and the output of the system may end. Nothing is told of what the files hold and of what the output takes: so an answer is one that the words have over some files.
use Rattle.std.specs.Prelude.{◌≢◌, ℕ, List}
use Rattle.sf_io.specs.Outside.{ShelfSeen}
use Rattle.sf_io.specs.declared.status.Status.{Status}
use Rattle.sf_io.specs.declared.status.Status.TheVariants.{WriteFault}
use Rattle.sf_batch.specs.Batch.{BatchAnswers}

-- where no print failed, the words have an answer of this status
abbrev pub MayEnd : List (List ℕ) → Status → Type 0
MayEnd words status = status ≢ WriteFault → (shelf shelf_then : ShelfSeen) × (printed : List ℕ) × BatchAnswers words shelf shelf_then status printed
