use Rattle.std.proofs.Common.{◌≡◌, ◌++◌, length, ap, refl, ◌∙◌, append_assoc, arith}
use Rattle.sf_gen.proofs.Common.{pad_pins, pin_lines, pins_of}
use Rattle.sf_gen.proofs.nets.push_net.Goals as goal

pub returns : goal.returns
returns c =
    let degree : c.degree-degree.result ≡ length (pins_of c.args.j c.args.ends) = omega (arith, c.degree-degree.ensures) in
    rw (← degree) (c.in_ok-push_pad_pin.ensures ∙ ap (λ v. v ++ pin_lines (pad_pins c.args.j)) c.in_ok-write.ensures.bytes ∙ simp append_assoc refl)
