use Rattle.sf_frames.proofs.AreaParts.{IsSummed}
use Rattle.sf_frames.proofs.area.area_part.Given as goal

abbrev pub invariant-loop-curve : goal.invariant-loop-curve
invariant-loop-curve l = IsSummed l.curves l.curve-index l.sum l.w l.h
