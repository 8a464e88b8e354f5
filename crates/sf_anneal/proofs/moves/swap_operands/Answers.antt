use Rattle.std.proofs.Common.{◌+◌, ◌/◌, length, subst, sym}
use Rattle.sf_anneal.proofs.Common.{AreNormal, operand_place, swapped, length-swap}
use Rattle.sf_anneal.proofs.Patterns.{one-length}
use Rattle.sf_anneal.proofs.Swapping.{swapped-normal}
use Rattle.sf_anneal.proofs.moves.swap_operands.Goals as goal

pub returns-clause-normal : goal.returns-clause-normal
returns-clause-normal c =
    let ts = c.args.tokens.now in
    let j = c.args.j in
    subst AreNormal (sym c.exchange.ensures)
    (one-length ts (swapped ts j) (length-swap ts (operand_place ts j) (operand_place ts (j + 1))) (swapped-normal ((length ts + 1) / 2) ts j c.requires.normal c.requires.inside))
