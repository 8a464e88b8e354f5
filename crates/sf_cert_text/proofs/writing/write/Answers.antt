use Rattle.std.proofs.Common.{◌≡◌, ◌∙◌, ap, rules}
use Rattle.sf_cert_text.proofs.Common.{cert_text, cert_read}
use Rattle.sf_cert_text.proofs.CertBack.{cert-back}
use Rattle.sf_cert_text.proofs.writing.write.Goals as goal

pub returns-clause-read_back : goal.returns-clause-read_back
returns-clause-read_back c lead =
    let cert = c.args.cert.now in
    let text : c.push_tags.new.text.items ≡ cert_text cert = search rules in
    ap (cert_read cert.blocks) text ∙ cert-back cert c.in_ok-push_header.ensures.cost c.in_ok-push_header.ensures.bound c.in_ok-push_header.ensures.paths lead c.in_ok-push_tags.ensures.fits
