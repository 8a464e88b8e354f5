use Rattle.std.proofs.Common.{◌≡◌, ◌++◌, take}
use Rattle.sf_pl_writer.proofs.Common.{flat_map, zip, block_line}
use Rattle.sf_pl_writer.proofs.placed.push_blocks.Given as goal

abbrev pub invariant-loop-index : goal.invariant-loop-index
invariant-loop-index l = l.text.items ≡ l.initial.text.items ++ flat_map (λ p. block_line l.scale p.0 p.1) (take l.index (zip l.blocks l.spots))
