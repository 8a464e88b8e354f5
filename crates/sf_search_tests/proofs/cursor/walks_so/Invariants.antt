use Rattle.sf_cursor.specs.Path.{IsPath}
use Rattle.sf_search_tests.proofs.cursor.walks_so.Given as goal

abbrev pub invariant-loop-steps : goal.invariant-loop-steps
invariant-loop-steps l = IsPath l.design (λ node. 7) l.cursor
