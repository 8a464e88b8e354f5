use Rattle.std.proofs.Common.{sym, ◌∙◌, ap, refl}
use Rattle.sf_cert_text.proofs.Common.{err_from_is_err_and, last_line_of, header_read, cert_read}
use Rattle.sf_cert_text.proofs.HeaderReads.{start-lines, header-paths}
use Rattle.sf_cert_text.proofs.reading.stored_paths.Goals as goal

pub returns-in_err-header-clause-fault : goal.returns-in_err-header-clause-fault
unfolding cert_read
returns-in_err-header-clause-fault c =
    let p = err_from_is_err_and c.from_residual.result c.from_residual.ensures.1 in
    let at = start-lines c.new-scan.result c.args.text.now c.new-scan.ensures.source c.new-scan.ensures.from in
    rw (p.1, p.2) (λ ne. rw (ap (header_read c.args.blocks (last_line_of c.args.text.now)) (sym at) ∙ c.in_err-header.ensures.fault ne) refl)

pub returns-clause-paths : goal.returns-clause-paths
returns-clause-paths c =
    let at = start-lines c.new-scan.result c.args.text.now c.new-scan.ensures.source c.new-scan.ensures.from in
    header-paths c.args.blocks c.args.text.now _ (ap (header_read c.args.blocks (last_line_of c.args.text.now)) (sym at) ∙ c.in_ok-header.ensures.header)
