use Rattle.std.proofs.Common.{length, arith, ap}
use Rattle.sf_lex.proofs.Common.{nat_tests, is_gap}
use Rattle.sf_lex.proofs.Pieces.{words_none, words_some}
use Rattle.sf_lex.proofs.field.next_field.Goals as goal

pub returns-then-is_empty-clause-words : goal.returns-then-is_empty-clause-words
returns-then-is_empty-clause-words c = words_none (is_gap c.args.gap) c.args.bytes.now (grind (arith, nat_tests, ap length c.split_word.ensures.word))

pub returns-else-is_empty-clause-words : goal.returns-else-is_empty-clause-words
returns-else-is_empty-clause-words c =
    rw (c.split_word.ensures.word, c.split_word.ensures.rest) (words_some (is_gap c.args.gap) c.args.bytes.now (grind (arith, nat_tests, ap length c.split_word.ensures.word)))
