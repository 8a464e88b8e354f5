use Rattle.std.proofs.Common.{◌≡◌, ◌≤◌, ◌*◌, length}
use Rattle.sf_frames.proofs.Common.{AreWhole}
use Rattle.sf_frames.proofs.wholes.wholes.Given as goal

abbrev pub invariant-loop-block : goal.invariant-loop-block
invariant-loop-block l = record {
  whole : AreWhole l.design l.points.items l.blocks.items (length l.points.items);
  count : length l.blocks.items ≡ l.block-index;
  few : length l.points.items ≤ 256 * l.block-index;
}
