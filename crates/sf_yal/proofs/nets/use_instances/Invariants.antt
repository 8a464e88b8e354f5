use Rattle.std.proofs.Common.{◌≡◌, drop}
use Rattle.sf_yal.proofs.Common.{used_in, used_by, signals_in, nothing_used}
use Rattle.sf_yal.proofs.nets.use_instances.Given as goal

abbrev pub invariant-loop-place : goal.invariant-loop-place
invariant-loop-place l = used_by l.place (used_in l.used) (signals_in (drop l.place l.instances)) ≡ used_by 0 nothing_used (signals_in l.instances)
