use Rattle.sf_program.proofs.Continued.{cert-loaded}
use Rattle.sf_program.proofs.Common.{uncounted}
use Rattle.sf_program.proofs.certificates.read_cert_file.Goals as goal

pub returns-clause-cert : goal.returns-clause-cert
returns-clause-cert g c =
    cert-loaded c.args.is_long (g.S.Shelf.seen c.args.shelf.now).holds c.args.name.now c.in_ok-text.text.items c.deref.result.now c.args.design.now c.in_ok-text.ensures.text c.deref.ensures.value c.read_cert.result c.read_cert.ensures.cert c.read_cert.ensures.refused

pub returns-clause-shelf : goal.returns-clause-shelf
returns-clause-shelf g c = (c.in_ok-text.ensures.shelf.0, uncounted c.read_cert.result _ _ c.read_cert.ensures.tells)
