use Rattle.std.proofs.Common.{◌≡◌, take}
use Rattle.sf_bounds.proofs.Common.{pads_share}
use Rattle.sf_bounds.proofs.net_start.pads_share.Given as goal

abbrev pub invariant-loop-pin : goal.invariant-loop-pin
invariant-loop-pin l = l.reach ≡ pads_share l.design (take l.pin-index l.pins)
