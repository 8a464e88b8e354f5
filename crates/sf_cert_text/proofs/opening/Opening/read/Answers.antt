use Rattle.std.proofs.Common.{◌≡◌, ◌+◌, ap, sym, subst, ◌∙◌, ◌++◌, List, ℕ, Err}
use Rattle.sf_cert_text.proofs.Common.{count_by, is_line_feed, err_from_is_err_and, last_line_of, IsHeader, first_byte, bytes_on, said_with, header_read, cert_read}
use Rattle.sf_cert_text.proofs.HeaderReads.{start-lines}
use Rattle.sf_cert_text.proofs.OpeningReads.{opened, opened-fault}
use Rattle.sf_cert_text.proofs.opening.Opening.read.Goals as goal

pub returns-in_err-header-clause-fault : goal.returns-in_err-header-clause-fault
returns-in_err-header-clause-fault c =
    let p = err_from_is_err_and c.from_residual.result c.from_residual.ensures.1 in
    let text = c.self.inside.text.items in
    let n = c.args.blocks in
    let other = last_line_of c.deref-2.result.now in
    let at = start-lines c.new-scan.result text (c.new-scan.ensures.source ∙ c.deref.ensures.value) c.new-scan.ensures.from in
    let e = c.in_err-header.field-0.0 in
    rw (p.1, p.2) (λ ne rest. subst (λ (t : List ℕ). cert_read n (t ++ rest) ≡ Err e) c.self.view_is
    (opened-fault n other text (subst IsHeader (sym c.self.view_is) c.requires) rest e (ap (header_read n other) (sym at) ∙ c.in_err-header.ensures.fault ne)))

pub returns-clause-reads : goal.returns-clause-reads
returns-clause-reads c rest =
    let text = c.self.inside.text.items in
    let n = c.args.blocks in
    let other = last_line_of c.deref-2.result.now in
    let at = start-lines c.new-scan.result text (c.new-scan.ensures.source ∙ c.deref.ensures.value) c.new-scan.ensures.from in
    let header = c.in_ok-header.header in
    let reads = opened n other text (subst IsHeader (sym c.self.view_is) c.requires) rest _ (ap (header_read n other) (sym at) ∙ c.in_ok-header.ensures.header) in
    let next : c.line_count.result + 1 ≡ count_by is_line_feed text + 1 = ap (λ k. k + 1) (c.line_count.ensures.count ∙ ap (count_by is_line_feed) c.deref-3.ensures.value) in
    let reader =
    c.in_ok-reader.ensures ∙ ap (λ k. first_byte header.version k c.last_line.result) next
    ∙ ap (first_byte header.version (count_by is_line_feed text + 1)) (c.last_line.ensures ∙ ap last_line_of c.deref-4.ensures.value) in
    ap (λ (t : List ℕ). cert_read n (t ++ rest)) (sym c.self.view_is) ∙ reads ∙ ap (λ at. said_with n header (bytes_on n at rest)) (sym reader)
