use Rattle.sf_yal.proofs.Standing.{stands_once_only, one_fault, not_both}
use Rattle.sf_yal.proofs.read.stands_for_one.Goals as goal

pub returns-clause-output : goal.returns-clause-output
returns-clause-output c = λ scale text a b p q. stands_once_only scale text a b p q

pub returns-clause-fault : goal.returns-clause-fault
returns-clause-fault c = λ scale text f g p q. one_fault scale text f g p q

pub returns-clause-not_both : goal.returns-clause-not_both
returns-clause-not_both c = λ scale text out f p q. not_both scale text out f p q
