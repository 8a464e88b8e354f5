use Rattle.sf_gen.proofs.Admitting.{admitted}
use Rattle.sf_gen.proofs.Joined.{joined_are}
use Rattle.sf_gen.proofs.laws.parts_are_admitted.Goals as goal

pub returns-clause-joined : goal.returns-clause-joined
returns-clause-joined c = joined_are

pub returns-clause-admitted : goal.returns-clause-admitted
returns-clause-admitted c = admitted
