use Rattle.std.proofs.Common.{subst, arith}
use Rattle.sf_cursor.proofs.Common.{CanStep}
use Rattle.sf_cursor.proofs.Ways.{few-spans}
use Rattle.sf_cursor.proofs.cursor.Cursor.next_step.Goals as goal

pub overflow_add-block : goal.overflow_add-block
overflow_add-block g c =
    let now = c.args.self.now in
    let can = subst (CanStep now.node) c.in-Block.is c.requires.can in
    omega (arith, can.0, few-spans c.args.design.now (g.V.Values.value c.args.values.now c.args.design.now) now c.requires.at)
