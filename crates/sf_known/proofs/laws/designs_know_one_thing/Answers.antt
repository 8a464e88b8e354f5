use Rattle.sf_known.proofs.OneKnown.{knows-one, known-blocks}
use Rattle.sf_known.proofs.laws.designs_know_one_thing.Goals as goal

pub returns : goal.returns
returns c = record { one = knows-one; blocks = known-blocks }
