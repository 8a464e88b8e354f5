use Rattle.std.proofs.Common.{◌≡◌, ◌+◌, ◌<◌, drop}
use Rattle.sf_anneal.proofs.Common.{operands, operand_place}
use Rattle.sf_anneal.proofs.moves.operand_place.Given as goal

abbrev pub invariant-loop-place : goal.invariant-loop-place
invariant-loop-place l = record { left : l.before < operands (drop l.place l.tokens); same : operand_place l.fn.tokens l.fn.j ≡ l.place + operand_place (drop l.place l.tokens) l.before }
