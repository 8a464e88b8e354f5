use Rattle.std.proofs.Common.{◌≡◌, length}
use Rattle.sf_expr_text.proofs.Common.{line_words, last_line_of, numbered_words, token_in}
use Rattle.sf_expr_text.proofs.ReadSteps.{IsReading}
use Rattle.sf_expr_text.proofs.read.read_tokens.Given as goal

abbrev pub invariant-loop-word : goal.invariant-loop-word
invariant-loop-word l =
    IsReading l.blocks (last_line_of l.text) (token_in l.blocks) (line_words l.text) l.reading.tokens.items (numbered_words l.scan)
    × (length l.reading.named.items ≡ l.blocks)

abbrev pub decreases-loop-word : goal.decreases-loop-word
decreases-loop-word l = length (numbered_words l.scan)
