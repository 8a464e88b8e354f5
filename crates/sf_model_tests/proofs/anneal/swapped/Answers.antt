use Rattle.std.proofs.Common.{arith}
use Rattle.sf_anneal.proofs.Places.{normal-operands}
use Rattle.sf_model_tests.proofs.anneal.swapped.Goals as goal

pub swap_operands-requires-clause-inside : goal.swap_operands-requires-clause-inside
swap_operands-requires-clause-inside c = omega (arith, c.if-j-gt1.false, normal-operands 3 c.args.tokens (c.is_normal.ensures.0 c.if-not-is_normal.false))
