use Rattle.std.proofs.Common.{◌≤◌}
use Rattle.sf_names.proofs.hash.step.Given as goal

abbrev pub invariant-loop-room : goal.invariant-loop-room
invariant-loop-room l = l.room ≤ l.most

abbrev pub decreases-loop-room : goal.decreases-loop-room
decreases-loop-room l = l.room
