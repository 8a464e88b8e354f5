use Rattle.std.proofs.Common.{arith, length, ap}
use Rattle.sf_lex.proofs.Common.{is_gap}
use Rattle.sf_lex.proofs.WordCount.{length-words}
use Rattle.sf_lex.proofs.field.count_fields.Goals as goal

pub overflow_add-count : goal.overflow_add-count
overflow_add-count c = omega (arith, length-words (is_gap c.args.gap) c.args.bytes.now, ap length c.in-Some.ensures.words)
