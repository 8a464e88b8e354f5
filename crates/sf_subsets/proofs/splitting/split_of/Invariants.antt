use Rattle.std.proofs.Common.{◌<◌}
use Rattle.sf_subsets.proofs.Common.{IsPart}
use Rattle.sf_subsets.proofs.Splits.{IsPassed}
use Rattle.sf_subsets.proofs.splitting.split_of.Given as goal

abbrev pub invariant-loop-part : goal.invariant-loop-part
invariant-loop-part l =
    IsPart l.part l.set × (l.part < l.set) × IsPassed l.curves l.set l.size l.part

abbrev pub decreases-loop-part : goal.decreases-loop-part
decreases-loop-part l = l.part
