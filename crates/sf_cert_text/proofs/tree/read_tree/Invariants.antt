use Rattle.std.proofs.Common.{length}
use Rattle.sf_cert_text.proofs.Common.{numbered_words, last_line_of, tree_read}
use Rattle.sf_cert_text.proofs.TreeReads.{IsReading}
use Rattle.sf_cert_text.proofs.tree.read_tree.Given as goal

abbrev pub invariant-loop-word : goal.invariant-loop-word
invariant-loop-word l = IsReading l.blocks (last_line_of l.text) (tree_read l.fn.version l.blocks (last_line_of l.text) (numbered_words l.fn.scan)) l.tags.items l.reader (numbered_words l.scan)

abbrev pub decreases-loop-word : goal.decreases-loop-word
decreases-loop-word l = length (numbered_words l.scan)
