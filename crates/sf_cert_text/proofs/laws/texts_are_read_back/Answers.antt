use Rattle.sf_cert_text.proofs.CertBack.{cert-back}
use Rattle.sf_cert_text.proofs.laws.texts_are_read_back.Goals as goal

pub returns : goal.returns
returns c = λ cert cost bound paths fits lead. cert-back cert cost bound paths lead fits
