use Rattle.std.proofs.Common.{arith, refl}
use Rattle.sf_frames.proofs.Leasts.{least_of_is}
use Rattle.sf_frames.proofs.least.least_of.Goals as goal

pub returns : goal.returns
returns c =
    least_of_is c.args.points.now c.args.points.now c.in_ok-smallest.smallest c.area.result refl c.requires.falls c.requires.small c.in_ok-smallest.ensures.least c.area.ensures (omega arith)
