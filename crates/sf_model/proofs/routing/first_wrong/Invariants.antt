use Rattle.std.proofs.Common.{◌≡◌, ℕ, ◌+◌, ◌<◌, length, get_or, take}
use Rattle.sf_model.proofs.Common.{place_on, ArePathsOfAxis, uses}
use Rattle.sf_model.proofs.routing.first_wrong.Given as goal

abbrev pub invariant-loop-number : goal.invariant-loop-number
invariant-loop-number l =
    ArePathsOfAxis (place_on l.axis l.design.pads) l.design.pads l.design.nets (take l.number l.paths)
    × (length l.left.items ≡ length l.initial.left.items)
    × ((k : ℕ) → k < length l.initial.left.items → get_or l.left.items k 0 + uses k (take l.number l.paths) ≡ get_or l.initial.left.items k 0)
