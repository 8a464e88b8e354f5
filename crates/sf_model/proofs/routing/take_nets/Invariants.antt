use Rattle.std.proofs.Common.{◌≡◌, ℕ, ◌+◌, ◌<◌, length, get_or, take, count_by, ◌==◌}
use Rattle.sf_model.proofs.routing.take_nets.Given as goal

abbrev pub invariant-loop-step : goal.invariant-loop-step
invariant-loop-step l =
    (length l.left.items ≡ length l.initial.left.items)
    × ((k : ℕ) → k < length l.initial.left.items → get_or l.left.items k 0 + count_by (λ s. s.net == k) (take l.step-index l.steps) ≡ get_or l.initial.left.items k 0)
