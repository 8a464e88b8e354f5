use Rattle.std.proofs.Common.{arith}
use Rattle.sf_jobs.proofs.Texts.{one_more, all_of}
use Rattle.sf_jobs.proofs.told.batch_text.Goals as goal

pub loop-number-preserved : goal.loop-number-preserved
loop-number-preserved c = one_more c.args.all.now c.loop-number.number c.index-all-number.result _ _ (omega arith) c.index-all-number.is c.loop-number.invariant c.in_ok-push_job.ensures

pub returns : goal.returns
returns c = let over = c.loop-number-test.false in all_of c.args.all.now c.loop-number.number _ (omega (arith, over)) c.loop-number.invariant
