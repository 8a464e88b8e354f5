use Rattle.std.proofs.Common.{◌≡◌, ℕ, get_or, take, false}
use Rattle.sf_nets.proofs.Common.{fold, anywhere, pin_home, narrowed_in}
use Rattle.sf_nets.proofs.homes.gather.Given as goal

abbrev pub invariant-loop-pin : goal.invariant-loop-pin
invariant-loop-pin l = (i : ℕ) → get_or l.reaches i anywhere ≡ fold (λ r p. narrowed_in i r (pin_home l.design l.table false p)) (get_or l.initial.reaches i anywhere) (take l.pin-index l.pins)
