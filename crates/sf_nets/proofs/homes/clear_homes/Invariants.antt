use Rattle.std.proofs.Common.{◌≡◌, ℕ, ◌<◌, get_or, false}
use Rattle.sf_nets.proofs.Common.{IfSome, Pin, anywhere, pin_home}
use Rattle.sf_nets.proofs.homes.clear_homes.Given as goal

abbrev pub invariant-loop-pin : goal.invariant-loop-pin
invariant-loop-pin l = (j : ℕ) (d : Pin) → j < l.pin-index → IfSome (pin_home l.design l.table false (get_or l.pins j d)) (λ h. get_or l.reaches h.item anywhere ≡ anywhere)
