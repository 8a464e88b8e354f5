use Rattle.std.proofs.Common.{arith}
use Rattle.sf_place.proofs.Common.{LiesIn}
use Rattle.sf_place.proofs.Numbered.{all_by_number}
use Rattle.sf_place.proofs.verdict.first_outside.Goals as goal

pub returns : goal.returns
returns c = all_by_number (LiesIn c.args.outline) c.args.spots.now c.requires.by_number (λ a h. c.loop-block.invariant a (omega arith))
