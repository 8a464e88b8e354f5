use Rattle.sf_bounds.specs.Memory.{IsMemoryOf}
use Rattle.sf_search_tests.proofs.bounds.have_values.Given as goal

abbrev pub invariant-loop-places : goal.invariant-loop-places
invariant-loop-places l = IsMemoryOf l.design l.room
