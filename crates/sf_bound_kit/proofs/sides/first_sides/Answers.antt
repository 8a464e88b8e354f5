use Rattle.std.proofs.Common.{map, ap, ◌∙◌, arith}
use Rattle.sf_bound_kit.proofs.Common.{range_with_len, sides_in}
use Rattle.sf_bound_kit.proofs.Table.{filled}
use Rattle.sf_bound_kit.proofs.sides.first_sides.Goals as goal

pub returns-clause-sides : goal.returns-clause-sides
returns-clause-sides c =
    let f = sides_in c.args.design.now c.args.node.now in
    filled f c.min-count.result c.loop-block.sides (omega (arith, c.min-count.ensures, c.loop-block.invariant.0)) (λ i d lt. c.loop-block.invariant.1 i d (omega (arith, lt, c.loop-block-test.false)))
    ∙ ap (λ n. map f (range_with_len 0 n)) (omega (arith, c.min-count.ensures, c.from.ensures, c.block_count.ensures))
