use Rattle.std.proofs.Common.{◌+◌, ◌<◌, length, arith, sym, subst}
use Rattle.sf_cuts.proofs.Nearest.{IsNearestOfFirst, nearest_found, nearest_of_all, nearest_stays}
use Rattle.sf_cuts.proofs.packing.nearest.Goals as goal
use Rattle.sf_cuts.proofs.packing.nearest.Goals.{then-abs_diff, else-abs_diff}

pub loop-shape-preserved : goal.loop-shape-preserved
loop-shape-preserved c =
    let shapes = c.args.shapes.now in
    let n = c.loop-shape.shape-index in
    let in_range : n < length shapes = omega (arith, c.loop-shape-test.true) in
    elim c.if-abs_diff.branch [
      | then-abs_diff w ↦ subst (IsNearestOfFirst shapes c.args.w (n + 1)) (sym w.nearest-is)
          (nearest_found shapes c.args.w n c.loop-shape.nearest record { w = 0; h = 0 } c.loop-shape.invariant in_range (omega (arith, w.if-abs_diff.true, c.abs_diff.ensures, c.abs_diff-in-loop-shape.ensures)))
      | else-abs_diff w ↦ subst (IsNearestOfFirst shapes c.args.w (n + 1)) (sym w.nearest-is)
          (nearest_stays shapes c.args.w n c.loop-shape.nearest record { w = 0; h = 0 } c.loop-shape.invariant in_range (omega (arith, w.if-abs_diff.false, c.abs_diff.ensures, c.abs_diff-in-loop-shape.ensures)))
    ]

pub returns : goal.returns
returns c =
    nearest_of_all c.args.shapes.now c.args.w c.loop-shape.shape-index c.loop-shape.nearest c.requires (omega (arith, c.loop-shape-test.false, c.loop-shape.auto.shape-index-end)) c.loop-shape.invariant
