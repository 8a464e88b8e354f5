-- The spans of a subproblem, as those ask for them who read shapes by them.
use Rattle.std.proofs.Common.{◌≡◌, ℕ, ◌<◌, ◌≤◌, length}
use Rattle.sf_bound.proofs.Common.{Design, shapes_of, Parts, span_of, IsSubproblem, AreSpans, are-spans}

-- the span of a block
pub span_count : (design : Design) (node : Parts) → IsSubproblem design node → length node.spans ≡ length design.blocks
span_count design node sub = (are-spans design node sub).count

-- the span of a block has a shape
pub span_some : (design : Design) (node : Parts) (b : ℕ) → IsSubproblem design node → b < length design.blocks → (span_of node b).0 < (span_of node b).1
span_some design node b sub lt = ((are-spans design node sub).each b lt).0

-- the span of a block ends within its list of shapes
pub span_inside : (design : Design) (node : Parts) (b : ℕ) → IsSubproblem design node → b < length design.blocks → (span_of node b).1 ≤ length (shapes_of design b)
span_inside design node b sub lt = ((are-spans design node sub).each b lt).1

-- the same as the crate of curves asks for it
pub curve_spans : (design : Design) (node : Parts) → IsSubproblem design node → AreSpans design node.spans
curve_spans design node sub =
    let k = are-spans design node sub in
    record { count = k.count; some = λ b lt. (k.each b lt).0; inside = λ b lt. (k.each b lt).1 }
