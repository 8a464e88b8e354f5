use Rattle.std.proofs.Common.{◌≡◌, All}
use Rattle.sf_rounds.proofs.Common.{IsDone, Gathers}
use Rattle.sf_rounds.proofs.gather.gather.Given as goal

abbrev pub invariant-loop-job : goal.invariant-loop-job
invariant-loop-job g l =
    All (IsDone l.fn.design l.fn.word) l.job-iterator.rest.items
    × (l.seat.word ≡ l.fn.word.id)
    × Gathers l.fn.design l.yielded l.fn.seat l.seat l.all.places.items l.all.pieces.items l.all.left.items l.all.best
