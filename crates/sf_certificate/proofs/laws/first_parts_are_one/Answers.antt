use Rattle.sf_certificate.proofs.Named.{first-one}
use Rattle.sf_certificate.proofs.laws.first_parts_are_one.Goals as goal

pub returns : goal.returns
returns c = first-one
