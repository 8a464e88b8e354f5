use Rattle.std.proofs.Common.{length}
use Rattle.sf_cuts.proofs.cutting.+cut_some.Given as goal

abbrev pub decreases-cut_some : goal.decreases-cut_some
decreases-cut_some l = length l.spots.now
