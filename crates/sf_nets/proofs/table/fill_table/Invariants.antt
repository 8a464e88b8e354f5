use Rattle.std.proofs.Common.{length, take}
use Rattle.sf_nets.proofs.Common.{None, Tells, extent_from, standing_of, standing_by}
use Rattle.sf_nets.proofs.table.fill_table.Given as goal

abbrev pub invariant-loop-extent : goal.invariant-loop-extent
invariant-loop-extent l = Tells (λ b. standing_of l.design (extent_from l.extents b) None) l.extent-index l.table.items

abbrev pub invariant-loop-seat : goal.invariant-loop-seat
invariant-loop-seat l = Tells (standing_by l.design l.extents (take l.seat-index l.seats)) (length l.design.blocks) l.table.items
