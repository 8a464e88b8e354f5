use Rattle.std.proofs.Common.{◌≡◌, ◌-◌, arith}
use Rattle.sf_gen.proofs.Common.{hard_count}
use Rattle.sf_gen.proofs.Counts.{all_blocks}
use Rattle.sf_gen.proofs.blocks.push_head.Goals as goal

pub overflow_sub-hard : goal.overflow_sub-hard
overflow_sub-hard c = omega (arith, all_blocks c.args.kinds c.args.count)

pub returns : goal.returns
returns c =
    let soft = c.soft_among-soft.ensures in
    let hard : c.args.count - c.soft_among-soft.result ≡ hard_count c.args.kinds c.args.count = omega (arith, all_blocks c.args.kinds c.args.count) in
    rw (← soft, ← hard) c.write.ensures.bytes
