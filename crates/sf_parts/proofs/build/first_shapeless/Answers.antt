use Rattle.std.proofs.Common.{◌<◌, ◌∙◌, length, get_or, arith}
use Rattle.sf_parts.proofs.Common.{nat_tests}
use Rattle.sf_parts.proofs.Shapeless.{shapeless_step}
use Rattle.sf_parts.proofs.build.first_shapeless.Goals as goal

pub loop-i-preserved : goal.loop-i-preserved
loop-i-preserved c =
    let some : 0 < length (get_or c.args.lists.now c.loop-i.i c.index-lists-i.result) = grind (arith, nat_tests) in
    c.loop-i.invariant ∙ shapeless_step c.args.blocks.now c.args.lists.now c.loop-i.i c.index-lists-i.result (omega arith) (omega arith) some
