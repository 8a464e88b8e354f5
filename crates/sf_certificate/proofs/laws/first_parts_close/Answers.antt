use Rattle.sf_certificate.proofs.Named.{first-close}
use Rattle.sf_certificate.proofs.laws.first_parts_close.Goals as goal

pub returns : goal.returns
returns c = first-close
