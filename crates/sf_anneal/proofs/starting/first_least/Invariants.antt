use Rattle.std.proofs.Common.{◌≡◌}
use Rattle.sf_anneal.proofs.Common.{first_least}
use Rattle.sf_anneal.proofs.starting.first_least.Given as goal

abbrev pub invariant-loop-found : goal.invariant-loop-found
invariant-loop-found l = l.best ≡ first_least l.yielded
