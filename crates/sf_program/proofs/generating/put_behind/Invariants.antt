use Rattle.std.proofs.Common.{◌≡◌, ◌++◌}
use Rattle.sf_program.proofs.Common.{stored_in}
use Rattle.sf_program.proofs.generating.put_behind.Given as goal

abbrev pub invariant-loop-store : goal.invariant-loop-store
invariant-loop-store l = stored_in l.stores.items ≡ stored_in l.initial.stores.items ++ stored_in l.yielded
