use Rattle.sf_certificate.proofs.Named.{unnamed-open, unnamed-waiting, unnamed-marks, unnamed-decided, unnamed-tree}
use Rattle.sf_certificate.proofs.laws.names_change_nothing.Goals as goal

pub returns-clause-open : goal.returns-clause-open
returns-clause-open c = unnamed-open

pub returns-clause-waiting : goal.returns-clause-waiting
returns-clause-waiting c = unnamed-waiting

pub returns-clause-marks : goal.returns-clause-marks
returns-clause-marks c = unnamed-marks

pub returns-clause-decided : goal.returns-clause-decided
returns-clause-decided c = unnamed-decided

pub returns-clause-tree : goal.returns-clause-tree
returns-clause-tree c = unnamed-tree
