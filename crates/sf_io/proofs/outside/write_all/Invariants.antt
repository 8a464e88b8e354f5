use Rattle.std.proofs.Common.{length, ◌-◌, ◌≤◌, take}
use Rattle.sf_io.proofs.Common.{Appends}
use Rattle.sf_io.proofs.outside.write_all.Given as goal

abbrev pub invariant-loop-at : goal.invariant-loop-at
invariant-loop-at g l =
    (l.at ≤ length l.text)
    × Appends (g.K.Sink.seen l.initial.out).taken (g.K.Sink.seen l.out).taken (take l.at l.text)
    × ((g.K.Sink.seen l.initial.out).faults ≤ (g.K.Sink.seen l.out).faults)

abbrev pub decreases-loop-at : goal.decreases-loop-at
decreases-loop-at g l = length l.text - l.at
