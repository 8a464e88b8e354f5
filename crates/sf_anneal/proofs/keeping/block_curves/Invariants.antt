use Rattle.std.proofs.Common.{◌≡◌, ℕ, ◌<◌, [], length, slice_index_or}
use Rattle.sf_anneal.proofs.Common.{IsBlockCurve}
use Rattle.sf_anneal.proofs.keeping.block_curves.Given as goal

abbrev pub invariant-loop-block : goal.invariant-loop-block
invariant-loop-block l = record { many : length l.curves.items ≡ l.block; each : (b : ℕ) → b < l.block → IsBlockCurve l.design b (slice_index_or l.curves.items b []) }
