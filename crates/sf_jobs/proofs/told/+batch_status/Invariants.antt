use Rattle.std.proofs.Common.{length}
use Rattle.sf_jobs.proofs.told.+batch_status.Given as goal

abbrev pub decreases-batch_status : goal.decreases-batch_status
decreases-batch_status l = length l.all.now
