use Rattle.std.proofs.Common.{ℕ, ◌+◌, ◌<◌, ◌≤◌, get_or, length}
use Rattle.sf_curves.proofs.Common.{Shape}
use Rattle.sf_curves.proofs.picking.last_narrow_point.Given as goal

abbrev pub invariant-loop-back : goal.invariant-loop-back
invariant-loop-back l = (k : ℕ) (d : Shape) → length l.points ≤ k + l.back → k < length l.points → l.limit < (get_or l.points k d).w
