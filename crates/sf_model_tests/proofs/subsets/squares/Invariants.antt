use Rattle.std.proofs.Common.{◌≡◌, ◌+◌, length, All}
use Rattle.sf_model.specs.Limits.{IsShapeList}
use Rattle.sf_model_tests.proofs.subsets.squares.Given as goal

abbrev pub invariant-loop-side : goal.invariant-loop-side
invariant-loop-side l = (length l.blocks.items + 1 ≡ l.side) × All (λ b. IsShapeList b.shapes) l.blocks.items
