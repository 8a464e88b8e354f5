use Rattle.std.proofs.Common.{ap, refl}
use Rattle.sf_pieces.proofs.Common.{Closed, value_in}
use Rattle.sf_pieces.proofs.naming.closed.Goals as goal

pub returns : goal.returns
returns c = ap (λ p. Closed p) (c.first.ensures (value_in c.args.values.now) (record { area = refl; range = refl; pair = refl; hull = refl }))
