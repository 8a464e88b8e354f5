use Rattle.sf_frames.proofs.Starting.{AreSummed}
use Rattle.sf_frames.proofs.top.start.Given as goal

abbrev pub invariant-loop-rest : goal.invariant-loop-rest
invariant-loop-rest l = AreSummed l.design l.blocks l.rest l.area l.w l.h

abbrev pub decreases-loop-rest : goal.decreases-loop-rest
decreases-loop-rest l = l.rest
