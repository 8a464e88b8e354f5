use Rattle.std.proofs.Common.{◌≡◌, length, All}
use Rattle.sf_model.specs.Limits.{IsShapeList}
use Rattle.sf_test_designs.proofs.drawing.draw_blocks.Given as goal

abbrev pub invariant-loop-block : goal.invariant-loop-block
invariant-loop-block l = record {
  count : length l.blocks.items ≡ l._block;
  shapes : All (λ b. IsShapeList b.shapes) l.blocks.items;
}
