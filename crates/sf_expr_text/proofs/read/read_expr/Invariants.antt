use Rattle.std.proofs.Common.{◌≡◌, length}
use Rattle.sf_expr_text.proofs.Common.{line_words, last_line_of, numbered_words, shaped_token_in}
use Rattle.sf_expr_text.proofs.ReadSteps.{IsReading, IsKeeping}
use Rattle.sf_expr_text.proofs.read.read_expr.Given as goal

abbrev pub invariant-loop-word : goal.invariant-loop-word
invariant-loop-word l =
    IsReading l.blocks (last_line_of l.text) (shaped_token_in l.blocks) (line_words l.text) l.reading.tokens.items (numbered_words l.scan)
    × (length l.reading.named.items ≡ l.blocks)
    × IsKeeping l.blocks (line_words l.text) l.shapes.items (numbered_words l.scan)

abbrev pub decreases-loop-word : goal.decreases-loop-word
decreases-loop-word l = length (numbered_words l.scan)
