use Rattle.sf_yal.proofs.Common.{err_from_is_err_and}
use Rattle.sf_yal.proofs.Stepping.{goes_on, fails, is_done}
use Rattle.sf_yal.proofs.blocks.read_instances.Goals as goal

pub returns-in_err-read_block : goal.returns-in_err-read_block
returns-in_err-read_block c =
    let p = err_from_is_err_and c.from_residual.result c.from_residual.ensures.1 in
    rw (p.1, p.2) (fails _ _ _ _ _ _ _ _ c.in_err-read_block.field-0.0 c.loop-instance-test.true c.instance-item.is c.in_err-read_block.ensures c.loop-instance.invariant)

pub loop-instance-preserved : goal.loop-instance-preserved
loop-instance-preserved c = goes_on _ _ _ _ _ _ _ _ _ _ c.loop-instance-test.true c.instance-item.is c.in_ok-read_block.ensures c.in_ok-push.ensures.items c.loop-instance.invariant

pub returns : goal.returns
returns c = is_done _ _ _ _ _ _ _ c.loop-instance-test.false c.loop-instance.invariant
