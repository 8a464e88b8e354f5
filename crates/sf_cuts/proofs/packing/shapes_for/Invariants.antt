use Rattle.sf_cuts.proofs.Shapes.{AreFirstShapesFor}
use Rattle.sf_cuts.proofs.packing.shapes_for.Given as goal

abbrev pub invariant-loop-block : goal.invariant-loop-block
invariant-loop-block l = AreFirstShapesFor l.design l.soft l.spots l.block l.shapes.items
