use Rattle.std.proofs.Common.{◌+◌, length}
use Rattle.sf_anneal.proofs.Common.{AreRenewed, HaveRoom}
use Rattle.sf_anneal.proofs.parts.Moved.renew.Given as goal

abbrev pub invariant-loop-place : goal.invariant-loop-place
invariant-loop-place l = record { room : HaveRoom (length l.tokens + 1) l.now l.self; renewed : AreRenewed l.design l.blocks l.now l.self l.known l.tokens l.place }
