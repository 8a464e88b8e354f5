use Rattle.std.proofs.Common.{◌≡◌, ◌++◌, take, string_bytes}
use Rattle.sf_gen.proofs.Common.{flat_map, indexed, block_line}
use Rattle.sf_gen.proofs.blocks.push_blocks.Given as goal

abbrev pub invariant-loop-i : goal.invariant-loop-i
invariant-loop-i l = string_bytes l.text ≡ string_bytes l.initial.text ++ flat_map (λ line. line) (indexed (block_line l.kinds) 0 (take l.i l.sizes))
