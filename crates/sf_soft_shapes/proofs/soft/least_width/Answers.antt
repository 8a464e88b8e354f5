use Rattle.std.proofs.Common.{◌+◌, ◌/◌, rules, arith}
use Rattle.sf_soft_shapes.proofs.Common.{IsLowEnough}
use Rattle.sf_soft_shapes.proofs.Heights.{wide_up}
use Rattle.sf_soft_shapes.proofs.soft.least_width.Goals as goal

pub loop-low-preserved-then-is_low_enough : goal.loop-low-preserved-then-is_low_enough
loop-low-preserved-then-is_low_enough c =
    let mid = (c.loop-low.low + c.loop-low.high) / 2 in
    let wide : IsLowEnough c.args.area c.args.most mid = search rules in
    (omega arith, omega arith, omega arith, c.loop-low.invariant.3, λ w from to. wide_up c.args.area c.args.most mid w (omega arith) from wide)

pub loop-low-preserved : goal.loop-low-preserved
loop-low-preserved c =
    let mid = (c.loop-low.low + c.loop-low.high) / 2 in
    let not_wide : ¬ (IsLowEnough c.args.area c.args.most mid) = search rules in
    (omega arith, omega arith, omega arith, λ w from to is. not_wide (wide_up c.args.area c.args.most w mid from (omega arith) is), c.loop-low.invariant.4)
