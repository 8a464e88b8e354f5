use Rattle.std.proofs.Common.{◌++◌, ap, ◌∙◌, string_bytes}
use Rattle.sf_gen.proofs.Common.{flat_map, take_all, indexed, net_lines, pins_of}
use Rattle.sf_gen.proofs.Growing.{lines_more}
use Rattle.sf_gen.proofs.nets.push_nets.Goals as goal

pub loop-j-preserved : goal.loop-j-preserved
loop-j-preserved c =
    lines_more net_lines pins_of c.args.ends.now c.loop-j.j _
    (string_bytes c.args.text.now) (string_bytes c.loop-j.text) (string_bytes c.push_net.new.text)
    c.loop-j-test.true c.loop-j.invariant c.in_ok-push_net.ensures

pub returns : goal.returns
returns c =
    c.loop-j.invariant
    ∙ ap (λ v. string_bytes c.args.text.now ++ flat_map net_lines (indexed pins_of 0 v)) (take_all c.loop-j.j c.args.ends.now c.loop-j-test.false)
