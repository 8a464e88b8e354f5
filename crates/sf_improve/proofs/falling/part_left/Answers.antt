use Rattle.std.proofs.Common.{◌*◌, ◌/◌, ◌∙◌, ap, arith}
use Rattle.sf_improve.proofs.Quotients.{part-is}
use Rattle.sf_improve.proofs.falling.part_left.Goals as goal

pub returns : goal.returns
returns c =
    let m = c.from-trials.result in
    let l = c.from-left.result in
    part-is c.args.number m l (omega (arith, c.from-trials.ensures, c.requires.some))
    ∙ ap (λ z. c.args.number * z / m) c.from-left.ensures
    ∙ ap (λ z. c.args.number * c.args.left / z) c.from-trials.ensures
