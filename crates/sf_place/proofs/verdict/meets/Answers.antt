use Rattle.std.proofs.Common.{arith}
use Rattle.sf_place.proofs.Common.{ints}
use Rattle.sf_place.proofs.verdict.meets.Goals as goal

pub returns-then-from-other_from : goal.returns-then-from-other_from
returns-then-from-other_from c = grind (arith, ints, c.from.ensures, c.from-then-from-other_from.ensures)
