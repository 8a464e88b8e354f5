use Rattle.std.proofs.Common.{below_more}
use Rattle.sf_node.proofs.belonging.are_in_spans.Goals as goal

pub loop-block-preserved : goal.loop-block-preserved
loop-block-preserved c = below_more _ _ c.loop-block.invariant (c.is_in_span.ensures.0 c.if-not-is_in_span.false)
