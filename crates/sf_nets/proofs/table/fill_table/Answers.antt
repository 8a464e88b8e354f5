use Rattle.std.proofs.Common.{arith, length, refl}
use Rattle.sf_nets.proofs.SeatTable.{table_more}
use Rattle.sf_nets.proofs.table.fill_table.Goals as goal

pub loop-seat-preserved : goal.loop-seat-preserved
loop-seat-preserved c =
    table_more c.args.design.now c.args.extents.now (length c.args.design.now.blocks) c.loop-seat.seat-index c.args.seats.now c.loop-seat.table.items c.put_home.new.table.items _ _ (omega arith) refl (c.requires.seats c.loop-seat.seat-index _ (omega arith)) c.loop-seat.invariant c.put_home.ensures
