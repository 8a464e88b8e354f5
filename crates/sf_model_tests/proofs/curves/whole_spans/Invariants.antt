use Rattle.std.proofs.Common.{◌≡◌, length, map, take}
use Rattle.sf_model_tests.proofs.curves.whole_spans.Given as goal

abbrev pub invariant-loop-block : goal.invariant-loop-block
invariant-loop-block l = l.spans.items ≡ map (λ block. (0, length block.shapes)) (take l.block-index l.block-items)
