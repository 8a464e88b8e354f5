use Rattle.std.proofs.Common.{◌≡◌, ◌+◌, length}
use Rattle.sf_lex.proofs.Common.{words, is_gap}
use Rattle.sf_lex.proofs.field.count_fields.Given as goal

abbrev pub invariant-loop-after : goal.invariant-loop-after
invariant-loop-after l = l.count + length (words (is_gap l.gap) l.rest) ≡ length (words (is_gap l.gap) l.bytes)

abbrev pub decreases-loop-after : goal.decreases-loop-after
decreases-loop-after l = length (words (is_gap l.gap) l.rest)
