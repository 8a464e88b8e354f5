use Rattle.std.proofs.Common.{◌<◌, length, get_or, ap, ◌∙◌, arith}
use Rattle.sf_wire.proofs.Pinned.{net_pins}
use Rattle.sf_wire.proofs.wires.wire.Goals as goal

pub weighed_wire-total-requires-clause-pins : goal.weighed_wire-total-requires-clause-pins
weighed_wire-total-requires-clause-pins c =
    let net = c.net-item.result in
    let h : c.loop-net.net-index < length c.args.design.now.nets = omega (arith, ap length c.as_slice-net-items.ensures) in
    net_pins c.args.design.now c.loop-net.net-index net h (c.net-item.is ∙ ap (λ v. get_or v c.loop-net.net-index net) c.as_slice-net-items.ensures)
