use Rattle.std.proofs.Common.{◌≡◌}
use Rattle.sf_cursor.proofs.Common.{blocks_from}
use Rattle.sf_cursor.proofs.cursor.Cursor.block_from.Given as goal

abbrev pub invariant-loop-block : goal.invariant-loop-block
invariant-loop-block g l = blocks_from l.self.node l.from ≡ blocks_from l.self.node l.block
