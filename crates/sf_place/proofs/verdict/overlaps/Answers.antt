use Rattle.std.proofs.Common.{arith}
use Rattle.sf_place.proofs.Common.{ints}
use Rattle.sf_place.proofs.verdict.overlaps.Goals as goal

pub returns-then-meets : goal.returns-then-meets
returns-then-meets c = (
  λ t. let x = c.meets.ensures.0 c.if-meets.true in let y = c.meets-then-meets.ensures.0 t in
      record { left = omega (arith, ints, x.0); right = omega (arith, ints, x.1); below = omega (arith, ints, y.0); above = omega (arith, ints, y.1) },
  λ o. let b = o.below in let a = o.above in c.meets-then-meets.ensures.1 (omega (arith, ints, b), omega (arith, ints, a)),
)
