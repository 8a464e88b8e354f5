use Rattle.std.proofs.Common.{List, ap, sym, subst, ◌∙◌, arith}
use Rattle.sf_parts.proofs.Common.{IsPermutation, named_pins, IsNetMade, Pin}
use Rattle.sf_parts.proofs.NetSets.{net_made}
use Rattle.sf_parts.proofs.nets.net_of.Goals as goal

pub returns-clause-made : goal.returns-clause-made
returns-clause-made c =
    let P : List Pin → Type 0 = λ ps. IsNetMade c.args.admitted.now.index.parts.now c.args.net.now (record { pins = ps; weight = c.args.weight }) in
    let Q : List Pin → Type 0 = λ ps. IsPermutation c.in_ok-pins.pins.items ps in
    subst P (sym c.from_vec-pins.ensures)
    (net_made c.args.admitted.now.index.parts.now c.args.net.now (record { pins = c.in_ok-set_of.field-0.items; weight = c.args.weight }) c.in_ok-pins.pins.items c.deref.result.now
    c.args.admitted.now.admitted c.requires.listed c.args.admitted.now.index.pins (c.in_ok-pins.ensures ∙ ap (named_pins c.args.admitted.now.index.parts.now) c.as_slice.ensures) (subst Q (sym c.deref.ensures.value) c.sort.ensures.permutation)
    c.in_ok-set_of.ensures.ascending c.in_ok-set_of.ensures.same c.in_ok-set_of.ensures.each (omega (arith, c.in_ok-set_of.ensures.few)) (omega arith))
