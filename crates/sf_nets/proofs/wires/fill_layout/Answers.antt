use Rattle.std.proofs.Common.{◌≤◌, All, sym, subst}
use Rattle.sf_nets.proofs.ReadyLayout.{small_extents}
use Rattle.sf_nets.proofs.wires.fill_layout.Goals as goal

pub fill_table-requires-clause-small : goal.fill_table-requires-clause-small
fill_table-requires-clause-small c =
    subst (All (λ e. (e.least_w ≤ 1048576) × (e.least_h ≤ 1048576))) (sym c.deref-2.ensures.value) (small_extents c.args.design.now c.args.node.now c.fill_extents.new.extents.items c.in_ok-fill_extents.ensures)
