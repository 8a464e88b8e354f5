use Rattle.std.proofs.Common.{sym, ◌∙◌, ap, Ok, refl}
use Rattle.sf_cert_text.proofs.Common.{err_from_is_err_and, last_line_of, header_read, cert_read}
use Rattle.sf_cert_text.proofs.HeaderReads.{start-lines, cert-whole}
use Rattle.sf_cert_text.proofs.reading.read.Goals as goal

pub returns-in_err-header-clause-fault : goal.returns-in_err-header-clause-fault
unfolding cert_read
returns-in_err-header-clause-fault c =
    let p = err_from_is_err_and c.from_residual.result c.from_residual.ensures.1 in
    let at = start-lines c.new-scan.result c.args.text.now c.new-scan.ensures.source c.new-scan.ensures.from in
    rw (p.1, p.2) (λ ne. rw (ap (header_read c.args.blocks (last_line_of c.args.text.now)) (sym at) ∙ c.in_err-header.ensures.fault ne) refl)

pub returns-in_err-tags-clause-fault : goal.returns-in_err-tags-clause-fault
unfolding cert_read
returns-in_err-tags-clause-fault c =
    let p = err_from_is_err_and c.from_residual-in_err-tags.result c.from_residual-in_err-tags.ensures.1 in
    let at = start-lines c.new-scan.result c.args.text.now c.new-scan.ensures.source c.new-scan.ensures.from in
    rw (p.1, p.2) (λ ne. rw (ap (header_read c.args.blocks (last_line_of c.args.text.now)) (sym at) ∙ c.in_ok-header.ensures.header, c.in_err-tags.ensures.fault ne) refl)

pub returns-clause-ok : goal.returns-clause-ok
returns-clause-ok c =
    let at = start-lines c.new-scan.result c.args.text.now c.new-scan.ensures.source c.new-scan.ensures.from in
    cert-whole c.args.blocks c.args.text.now _ c.in_ok-tags.tags.items (ap (header_read c.args.blocks (last_line_of c.args.text.now)) (sym at) ∙ c.in_ok-header.ensures.header) c.in_ok-tags.ensures.tags
    ∙ ap (λ ts. Ok (record { blocks = c.args.blocks; plan = c.in_ok-header.header.plan; cost = c.in_ok-header.header.cost; bound = c.in_ok-header.header.bound; paths = c.in_ok-header.header.paths; tags = ts })) (sym c.in_ok-tags-2.ensures)
