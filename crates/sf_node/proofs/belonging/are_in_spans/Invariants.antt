use Rattle.std.proofs.Common.{ℕ, ◌<◌}
use Rattle.sf_node.proofs.Common.{shape_at, IsInSpan}
use Rattle.sf_node.proofs.belonging.are_in_spans.Given as goal

abbrev pub invariant-loop-block : goal.invariant-loop-block
invariant-loop-block l = (b : ℕ) → b < l.block → IsInSpan l.design l.node b (shape_at l.shapes b)
