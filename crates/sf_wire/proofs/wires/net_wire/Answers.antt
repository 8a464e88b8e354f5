use Rattle.std.proofs.Common.{get_or, ap, ◌∙◌}
use Rattle.sf_wire.proofs.Pinned.{net_pins}
use Rattle.sf_wire.proofs.wires.net_wire.Goals as goal

pub half_perimeter-requires-clause-pins : goal.half_perimeter-requires-clause-pins
half_perimeter-requires-clause-pins c =
    let net = c.index-as_slice-net.result in
    net_pins c.args.design.now c.args.net net c.requires.in_range (c.index-as_slice-net.is ∙ ap (λ v. get_or v c.args.net net) c.as_slice.ensures)
