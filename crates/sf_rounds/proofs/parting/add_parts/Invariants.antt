use Rattle.sf_rounds.proofs.Parted.{IsAdding}
use Rattle.sf_rounds.proofs.parting.add_parts.Given as goal

abbrev pub invariant-loop-done : goal.invariant-loop-done
invariant-loop-done g l = IsAdding l.fn.design (g.V.Values.value l.fn.values l.fn.design) l.fn.stretch l.fn.parts.items l.parts.items l.rest
