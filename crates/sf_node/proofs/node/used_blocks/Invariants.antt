use Rattle.std.proofs.Common.{◌≡◌, ℕ, ◌<◌, length, take, true}
use Rattle.sf_node.proofs.Common.{not, slice_index_or, is_unused}
use Rattle.sf_node.proofs.node.used_blocks.Given as goal

abbrev pub invariant-loop-token : goal.invariant-loop-token
invariant-loop-token l = record {
  each : length l.used.items ≡ l.blocks;
  used : (b : ℕ) → b < l.blocks → slice_index_or l.used.items b true ≡ not (is_unused b (take l.token-index l.tokens));
}
