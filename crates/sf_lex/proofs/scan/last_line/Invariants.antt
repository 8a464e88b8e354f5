use Rattle.std.proofs.Common.{◌≡◌, length}
use Rattle.sf_lex.proofs.Common.{numbered_words, last_word_line, last_line_of}
use Rattle.sf_lex.proofs.scan.last_line.Given as goal

abbrev pub invariant-loop-word : goal.invariant-loop-word
invariant-loop-word l = last_word_line l.last (numbered_words l.scan) ≡ last_line_of l.text

abbrev pub decreases-loop-word : goal.decreases-loop-word
decreases-loop-word l = length (numbered_words l.scan)
