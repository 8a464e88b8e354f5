use Rattle.std.proofs.Common.{◌≡◌, length}
use Rattle.sf_bound_kit.proofs.Common.{list_any, each_two, have_no_room}
use Rattle.sf_bound_kit.proofs.pairs.any_without_room.Given as goal

abbrev pub invariant-loop-first : goal.invariant-loop-first
invariant-loop-first l = list_any (have_no_room l.outline) (each_two l.rest) ≡ list_any (have_no_room l.outline) (each_two l.sides)

abbrev pub decreases-loop-first : goal.decreases-loop-first
decreases-loop-first l = length l.rest
