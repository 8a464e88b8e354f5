use Rattle.std.proofs.Common.{◌≡◌, drop}
use Rattle.sf_bounds.proofs.Common.{contains_pin}
use Rattle.sf_bounds.proofs.net_start.contains.Given as goal

abbrev pub invariant-loop-pin : goal.invariant-loop-pin
invariant-loop-pin l = contains_pin l.block l.pins ≡ contains_pin l.block (drop l.pin-index l.pins)
