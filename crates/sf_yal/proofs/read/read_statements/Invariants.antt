use Rattle.std.proofs.Common.{◌≡◌, ◌+◌, ◌≤◌, length}
use Rattle.sf_yal.proofs.Common.{statements, pieces, last_piece, start, after_statements, reading_in}
use Rattle.sf_yal.proofs.read.read_statements.Given as goal

abbrev pub invariant-loop-piece : goal.invariant-loop-piece
invariant-loop-piece l = record {
  same : after_statements l.scale.per_unit (reading_in l.found) (statements l.line (pieces l.rest)) ≡ after_statements l.scale.per_unit start (statements 1 (pieces l.fn.text));
  last : last_piece (pieces l.rest) ≡ last_piece (pieces l.fn.text);
  short : l.line + length l.rest ≤ length l.fn.text + 1;
}

abbrev pub decreases-loop-piece : goal.decreases-loop-piece
decreases-loop-piece l = length l.rest
