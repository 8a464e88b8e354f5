use Rattle.sf_parts.proofs.Limited.{limits_kept}
use Rattle.sf_parts.proofs.admit.admitted_parts_keep_limits.Goals as goal

pub returns : goal.returns
returns c = limits_kept
