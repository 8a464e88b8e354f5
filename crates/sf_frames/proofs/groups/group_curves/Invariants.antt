use Rattle.sf_frames.proofs.UnusedCurves.{IsAdding}
use Rattle.sf_frames.proofs.groups.group_curves.Given as goal

abbrev pub invariant-loop-block : goal.invariant-loop-block
invariant-loop-block l = IsAdding l.design l.node l.curves.items l.block
