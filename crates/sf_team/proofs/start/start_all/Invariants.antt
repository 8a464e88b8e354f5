use Rattle.std.proofs.Common.{◌≡◌, All}
use Rattle.sf_team.proofs.Common.{view, IsSeatAt, sends_on}
use Rattle.sf_team.proofs.start.start_all.Given as goal

abbrev pub invariant-loop : goal.invariant-loop
invariant-loop g l = IsSeatAt (sends_on l.jobs) l.pass × (view l.pass ≡ view l.fn.pass) × All (λ h. sends_on h.promise.jobs.value ≡ sends_on l.jobs) l.handles.items
