use Rattle.std.proofs.Common.{length, ◌+◌, ◌-◌}
use Rattle.sf_curves.proofs.Joining.{IsJoining}
use Rattle.sf_curves.proofs.combining.combine.Given as goal

abbrev pub invariant-loop-i : goal.invariant-loop-i
invariant-loop-i l = IsJoining l.direction l.first l.second l.outline l.sizes.items l.i l.j

abbrev pub decreases-loop-i : goal.decreases-loop-i
decreases-loop-i l = (length l.first - l.i) + (length l.second - l.j)
