use Rattle.std.proofs.Common.{◌≡◌, take, false}
use Rattle.sf_model.proofs.Common.{list_any, is_pin}
use Rattle.sf_model.proofs.routing.has_pin.Given as goal

abbrev pub invariant-loop-other : goal.invariant-loop-other
invariant-loop-other l = list_any (is_pin l.pin) (take l.other-index l.pins) ≡ false
