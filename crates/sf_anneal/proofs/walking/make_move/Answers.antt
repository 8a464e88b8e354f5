use Rattle.std.proofs.Common.{arith}
use Rattle.sf_anneal.proofs.Places.{normal-operands, runs-some}
use Rattle.sf_anneal.proofs.walking.make_move.Goals as goal

pub swap_operands-requires-clause-inside : goal.swap_operands-requires-clause-inside
swap_operands-requires-clause-inside c = omega (arith, normal-operands c.args.blocks c.args.tokens.now c.requires.normal, c.from-blocks.ensures, c.requires.some)

pub nonzero_rem-place-in-1 : goal.nonzero_rem-place-in-1
nonzero_rem-place-in-1 c = omega (arith, runs-some c.args.blocks c.args.tokens.now c.requires.normal c.requires.some, c.run_count.ensures)

pub flip_chain-requires-clause-inside : goal.flip_chain-requires-clause-inside
flip_chain-requires-clause-inside c = omega (arith, runs-some c.args.blocks c.args.tokens.now c.requires.normal c.requires.some, c.run_count.ensures)
