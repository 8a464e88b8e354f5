use Rattle.std.proofs.Common.{◌≡◌, length}
use Rattle.sf_anneal.proofs.keeping.empty_curves.Given as goal

abbrev pub invariant-loop-part : goal.invariant-loop-part
invariant-loop-part l = length l.curves.items ≡ l._part
