use Rattle.std.proofs.Common.{drop}
use Rattle.sf_measuring.proofs.Common.{IsIndex}
use Rattle.sf_measuring.proofs.placed_lines.index_lines.Given as goal

abbrev pub invariant-loop-i : goal.invariant-loop-i
invariant-loop-i l = IsIndex l.index l.blocks l.lines (drop l.i l.lines)
