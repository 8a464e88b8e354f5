use Rattle.std.proofs.Common.{◌≡◌, take}
use Rattle.sf_resume.proofs.Common.{decided, flat_map}
use Rattle.sf_resume.proofs.resuming.decided_by.Given as goal

abbrev pub invariant-loop-run : goal.invariant-loop-run
invariant-loop-run l = l.count ≡ decided (flat_map (λ run. run.items) (take l.run-index l.run-items))
