use Rattle.std.proofs.Common.{arith}
use Rattle.sf_gsrc.proofs.NetLaws.{read_from_stands}
use Rattle.sf_gen.proofs.Common.{ends, nets_out, nets_pins, nets_text}
use Rattle.sf_gen.proofs.Counts.{few_nets}
use Rattle.sf_gen.proofs.EndsDrawn.{nets_are_nets, length-nets, few_pins}
use Rattle.sf_gen.proofs.NetsRead.{nets_stand}
use Rattle.sf_gen.proofs.laws.nets_are_read.Goals as goal

pub returns : goal.returns
unfolding nets_text
returns c = λ seed n low high.
    read_from_stands (nets_text (ends seed n)) (nets_out (ends seed n))
    (nets_stand (nets_pins (ends seed n)) (nets_are_nets seed n low high)
    (omega (arith, length-nets seed n, few_nets n high)) (omega (arith, few_pins seed n high)))
