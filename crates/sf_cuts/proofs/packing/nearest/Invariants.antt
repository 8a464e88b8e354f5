use Rattle.sf_cuts.proofs.Nearest.{IsNearestOfFirst}
use Rattle.sf_cuts.proofs.packing.nearest.Given as goal

abbrev pub invariant-loop-shape : goal.invariant-loop-shape
invariant-loop-shape l = IsNearestOfFirst l.shapes l.w l.shape-index l.nearest
