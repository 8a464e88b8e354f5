use Rattle.std.proofs.Common.{◌≡◌, ◌≤◌, take, get_or, false}
use Rattle.sf_nets.proofs.Common.{anywhere, greatest_gap}
use Rattle.sf_nets.proofs.homes.greatest_gap.Given as goal

abbrev pub invariant-loop-pin : goal.invariant-loop-pin
invariant-loop-pin l = (l.most ≡ greatest_gap l.design l.table false (λ i. get_or l.reaches i anywhere) (take l.pin-index l.pins)) × (l.most ≤ 2800000000)
