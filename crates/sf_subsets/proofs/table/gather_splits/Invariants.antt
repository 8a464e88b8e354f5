use Rattle.std.proofs.Common.{length}
use Rattle.sf_subsets.proofs.Common.{AddsSplits, IsPart}
use Rattle.sf_subsets.proofs.table.gather_splits.Given as goal

abbrev pub invariant-loop-part : goal.invariant-loop-part
invariant-loop-part l =
    let curves = l.table.curves.items in
    IsPart l.part l.rest × AddsSplits l.outline l.limit curves (length curves) l.rest l.part l.initial.found.items l.found.items

abbrev pub decreases-loop-part : goal.decreases-loop-part
decreases-loop-part l = l.part
