use Rattle.sf_certificate.proofs.Named.{full-close}
use Rattle.sf_certificate.proofs.laws.full_parts_close.Goals as goal

pub returns : goal.returns
returns c = full-close
