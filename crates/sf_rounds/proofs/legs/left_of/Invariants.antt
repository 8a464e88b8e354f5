use Rattle.std.proofs.Common.{◌≡◌, ◌+◌, drop}
use Rattle.sf_rounds.proofs.Common.{tags_in}
use Rattle.sf_rounds.proofs.legs.left_of.Given as goal

abbrev pub invariant-loop-piece : goal.invariant-loop-piece
invariant-loop-piece l = l.left + tags_in l.pieces ≡ l.fn.budget + tags_in (drop l.piece-index l.pieces)
