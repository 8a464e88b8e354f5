use Rattle.std.proofs.Common.{◌≡◌, ◌-◌, ◌^◌, min, length, take}
use Rattle.sf_parts.proofs.Common.{sum_by, RawNet}
use Rattle.sf_parts.proofs.limits.count_pins.Given as goal

abbrev pub invariant-loop-net : goal.invariant-loop-net
invariant-loop-net l = l.count ≡ min (sum_by (λ (n : RawNet). length n.pins) (take l.net-index l.nets)) (2 ^ 64 - 1)
