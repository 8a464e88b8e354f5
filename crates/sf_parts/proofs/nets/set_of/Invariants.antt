use Rattle.sf_parts.proofs.Ascending.{IsSetOfFirst}
use Rattle.sf_parts.proofs.nets.set_of.Given as goal

abbrev pub invariant-loop-pin : goal.invariant-loop-pin
invariant-loop-pin l = IsSetOfFirst l.pins l.pin-index l.next l.set.items
