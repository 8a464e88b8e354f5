use Rattle.std.proofs.Common.{length}
use Rattle.sf_frames.proofs.groups.clear.Given as goal

abbrev pub decreases-loop-curve : goal.decreases-loop-curve
decreases-loop-curve l = length l.curves.items
