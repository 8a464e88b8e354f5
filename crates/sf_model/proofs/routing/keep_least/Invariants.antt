use Rattle.std.proofs.Common.{◌≡◌, ℕ, ◌<◌, ◌≤◌, min, length, get_or}
use Rattle.sf_model.proofs.routing.keep_least.Given as goal

abbrev pub invariant-loop-i : goal.invariant-loop-i
invariant-loop-i l =
    (length l.numbers.items ≡ length l.initial.numbers.items)
    × ((k : ℕ) → k < l.i → get_or l.numbers.items k 0 ≡ min (get_or l.initial.numbers.items k 0) (get_or l.others k 0))
    × ((k : ℕ) → l.i ≤ k → get_or l.numbers.items k 0 ≡ get_or l.initial.numbers.items k 0)
