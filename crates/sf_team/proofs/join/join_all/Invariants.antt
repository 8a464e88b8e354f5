use Rattle.std.proofs.Common.{◌≡◌, List, All, vec_len}
use Rattle.sf_team.proofs.Common.{view, IsSeatAt, sends_on, IsTable, IsCaller}
use Rattle.sf_team.proofs.join.join_all.Given as goal

abbrev pub invariant-loop-handle : goal.invariant-loop-handle
invariant-loop-handle g l = IsSeatAt (sends_on l.jobs) l.pass
    × ((given : List _) × IsCaller given (view l.pass))
    × All (λ h. sends_on h.promise.jobs.value ≡ sends_on l.jobs) l.handles.items
    × ((given : List _) → IsCaller given (view l.fn.pass) → IsTable g.W.Gives.gives given l.fn.table → IsCaller given (view l.pass) × IsTable g.W.Gives.gives given l.table)

abbrev pub decreases-loop-handle : goal.decreases-loop-handle
decreases-loop-handle g l = vec_len l.handles
