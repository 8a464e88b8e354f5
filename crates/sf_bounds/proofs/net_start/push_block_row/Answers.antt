use Rattle.std.proofs.Common.{◌<◌, ◌++◌, map, length, get_or, ap, ◌∙◌, arith}
use Rattle.sf_bounds.proofs.Common.{take_all, block_cell, of_weight}
use Rattle.sf_bounds.proofs.Weights.{row-step}
use Rattle.sf_bounds.proofs.net_start.push_block_row.Goals as goal

pub loop-net-preserved : goal.loop-net-preserved
loop-net-preserved c =
    let nets = c.args.design.now.nets in
    let i = c.loop-net.net-index in
    let net = c.net-item.result in
    let lt : i < length nets = omega (arith, ap length c.as_slice-net-items.ensures) in
    row-step (block_cell c.args.block c.args.extent) c.args.cells.now.items c.loop-net.cells.items c.push_own.new.cells.items nets i net c.loop-net.invariant c.in_ok-push_own.ensures
    (c.net-item.is ∙ ap (λ v. get_or v i net) c.as_slice-net-items.ensures) lt

pub returns : goal.returns
returns c =
    c.loop-net.invariant
    ∙ ap (λ v. c.args.cells.now.items ++ map (block_cell c.args.block c.args.extent) (of_weight v)) (take_all c.loop-net.net-index c.args.design.now.nets (omega (arith, c.loop-net-test.false, ap length c.as_slice-net-items.ensures)))
