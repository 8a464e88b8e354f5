use Rattle.std.proofs.Common.{◌≡◌, ◌++◌, reverse, vec_len}
use Rattle.sf_parts.proofs.Common.{design_blocks}
use Rattle.sf_parts.proofs.build.blocks_of.Given as goal

abbrev pub invariant-loop-block : goal.invariant-loop-block
invariant-loop-block l = (vec_len l.read ≡ vec_len l.left) × (design_blocks l.read.items l.left.items ++ reverse l.blocks.items ≡ design_blocks l.initial.read.items l.initial.left.items)

abbrev pub decreases-loop-block : goal.decreases-loop-block
decreases-loop-block l = vec_len l.read
