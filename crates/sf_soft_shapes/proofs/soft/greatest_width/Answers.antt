use Rattle.std.proofs.Common.{◌+◌, ◌/◌, rules, arith}
use Rattle.sf_soft_shapes.proofs.Common.{IsHighEnough}
use Rattle.sf_soft_shapes.proofs.Heights.{narrow_down}
use Rattle.sf_soft_shapes.proofs.soft.greatest_width.Goals as goal

pub loop-low-preserved-then-is_high_enough : goal.loop-low-preserved-then-is_high_enough
loop-low-preserved-then-is_high_enough c =
    let mid = (c.loop-low.low + c.loop-low.high + 1) / 2 in
    let narrow : IsHighEnough c.args.area c.args.least mid = search rules in
    (omega arith, omega arith, λ w from to. narrow_down c.args.area c.args.least w mid from to narrow, c.loop-low.invariant.3)

pub loop-low-preserved : goal.loop-low-preserved
loop-low-preserved c =
    let mid = (c.loop-low.low + c.loop-low.high + 1) / 2 in
    let not_narrow : ¬ (IsHighEnough c.args.area c.args.least mid) = search rules in
    (omega arith, omega arith, c.loop-low.invariant.2, λ w from to is. not_narrow (narrow_down c.args.area c.args.least mid w (omega arith) (omega arith) is))
