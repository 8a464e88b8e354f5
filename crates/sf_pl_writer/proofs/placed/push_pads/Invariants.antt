use Rattle.std.proofs.Common.{◌≡◌, ◌++◌, take, length}
use Rattle.sf_pl_writer.proofs.Common.{flat_map, range_with_len, pad_lines_of}
use Rattle.sf_pl_writer.proofs.placed.push_pads.Given as goal

abbrev pub invariant-loop-index : goal.invariant-loop-index
invariant-loop-index l = l.text.items ≡ l.initial.text.items ++ flat_map (pad_lines_of l.scale l.design) (take l.index (range_with_len 0 (length l.design.pads)))
