use Rattle.std.proofs.Common.{◌≡◌, ◌+◌, ◌≤◌, length}
use Rattle.sf_yal.proofs.Common.{pieces, begun}
use Rattle.sf_yal.proofs.CountSteps.{counted_pieces}
use Rattle.sf_yal.proofs.losses.count_statements.Given as goal

abbrev pub invariant-loop-piece : goal.invariant-loop-piece
invariant-loop-piece l = record {
  same : counted_pieces l.scale.per_unit l.counting (pieces l.rest) ≡ counted_pieces l.scale.per_unit begun (pieces l.fn.text);
  unplaced : l.counting.losses.unplaced + length l.rest ≤ length l.fn.text;
  pad_modules : l.counting.losses.pad_modules + length l.rest ≤ length l.fn.text;
}

abbrev pub decreases-loop-piece : goal.decreases-loop-piece
decreases-loop-piece l = length l.rest
