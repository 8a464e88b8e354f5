use Rattle.std.proofs.Common.{◌≡◌, ◌+◌, ◌-◌, sym, arith}
use Rattle.std.proofs.Math.Seq.{drop-length}
use Rattle.sf_model.proofs.Walks.{drop_step}
use Rattle.sf_parts.proofs.table.NameTable.of_items.Goals as goal

pub loop-left-init : goal.loop-left-init
loop-left-init g c = (omega arith, λ text says. rw (drop-length c.args.items.now) (c.new-table.ensures _))

pub loop-left-preserved : goal.loop-left-preserved
loop-left-preserved g c =
    let e : c.loop-left.left - 1 + 1 ≡ c.loop-left.left = omega arith in
    let item = drop_step c.args.items.now (c.loop-left.left - 1) c.index-items-left.result (omega arith) in
    (omega arith, λ text says. rw (item, e, sym c.index-items-left.is, sym (says _ _ c.name.ensures)) (c.in_ok-put.ensures _ (rw e (c.loop-left.invariant.1 text says))))
