use Rattle.std.proofs.Common.{inr, [], None, refl}
use Rattle.sf_io.specs.Outside.{ShelfSeen}
use Rattle.floorbatch.proofs.answer.Goals as goal

pub returns-in-Ok : goal.returns-in-Ok
returns-in-Ok g c = λ whole. let a = c.run_batch.ensures.answer whole in (_, _, a.0, a.1)

pub returns-in-Err : goal.returns-in-Err
returns-in-Err g c = λ whole.
    let nothing : ShelfSeen = record { holds = None; load_faults = 0; store_faults = 0 } in (nothing, nothing, [], inr (inr (refl, refl)))
