use Rattle.std.proofs.Common.{◌≡◌}
use Rattle.sf_nets.proofs.Common.{moved, reseated}
use Rattle.sf_nets.proofs.Shifting.{shifted}
use Rattle.sf_nets.proofs.laying.shift.Given as goal

abbrev pub invariant-loop-place : goal.invariant-loop-place
invariant-loop-place l = l.seats.items ≡ shifted (reseated l.item (moved l.way l.by)) l.start l.place l.initial.seats.items
