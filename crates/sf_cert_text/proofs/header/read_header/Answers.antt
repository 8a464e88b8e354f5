use Rattle.std.proofs.Common.{refl}
use Rattle.sf_cert_text.proofs.Common.{err_from_is_err_and, header_read}
use Rattle.sf_cert_text.proofs.header.read_header.Goals as goal

pub returns-in_err-version-clause-fault : goal.returns-in_err-version-clause-fault
unfolding header_read
returns-in_err-version-clause-fault c =
    let p = err_from_is_err_and c.from_residual.result c.from_residual.ensures.1 in
    rw (p.1, p.2) (λ ne. rw c.in_err-version.ensures refl)

pub returns-in_err-read_number-clause-fault : goal.returns-in_err-read_number-clause-fault
unfolding header_read
returns-in_err-read_number-clause-fault c =
    let p = err_from_is_err_and c.from_residual-in_err-read_number.result c.from_residual-in_err-read_number.ensures.1 in
    rw (p.1, p.2) (λ ne. rw (c.in_ok-version.ensures, c.in_err-read_number.ensures) refl)

pub returns-in_err-cost-clause-fault : goal.returns-in_err-cost-clause-fault
unfolding header_read
returns-in_err-cost-clause-fault c =
    let p = err_from_is_err_and c.from_residual-in_err-cost.result c.from_residual-in_err-cost.ensures.1 in
    rw (p.1, p.2) (λ ne. rw (c.in_ok-version.ensures, c.in_ok-read_number.ensures, c.in_err-cost.ensures) refl)

pub returns-in_err-bound-clause-fault : goal.returns-in_err-bound-clause-fault
unfolding header_read
returns-in_err-bound-clause-fault c =
    let p = err_from_is_err_and c.from_residual-in_err-bound.result c.from_residual-in_err-bound.ensures.1 in
    rw (p.1, p.2) (λ ne. rw (c.in_ok-version.ensures, c.in_ok-read_number.ensures, c.in_ok-cost.ensures, c.in_err-bound.ensures) refl)

pub returns-in_err-plan-clause-fault : goal.returns-in_err-plan-clause-fault
unfolding header_read
returns-in_err-plan-clause-fault c =
    let p = err_from_is_err_and c.from_residual-in_err-plan.result c.from_residual-in_err-plan.ensures.1 in
    rw (p.1, p.2) (λ ne. rw (c.in_ok-version.ensures, c.in_ok-read_number.ensures, c.in_ok-cost.ensures, c.in_ok-bound.ensures, c.in_err-plan.ensures.fault ne) refl)

pub returns-in_err-paths-clause-fault : goal.returns-in_err-paths-clause-fault
unfolding header_read
returns-in_err-paths-clause-fault c =
    let p = err_from_is_err_and c.from_residual-in_err-paths.result c.from_residual-in_err-paths.ensures.1 in
    rw (p.1, p.2) (λ ne. rw (c.in_ok-version.ensures, c.in_ok-read_number.ensures, c.in_ok-cost.ensures, c.in_ok-bound.ensures, c.in_ok-plan.ensures.line, c.in_err-paths.ensures.fault ne) refl)

pub returns-in_err-read_only-clause-fault : goal.returns-in_err-read_only-clause-fault
unfolding header_read
returns-in_err-read_only-clause-fault c =
    let p = err_from_is_err_and c.from_residual-in_err-read_only.result c.from_residual-in_err-read_only.ensures.1 in
    rw (p.1, p.2) (λ ne. rw (c.in_ok-version.ensures, c.in_ok-read_number.ensures, c.in_ok-cost.ensures, c.in_ok-bound.ensures, c.in_ok-plan.ensures.line, c.in_ok-paths.ensures.paths, c.in_err-read_only.ensures) refl)

pub returns-clause-header : goal.returns-clause-header
unfolding header_read
returns-clause-header c = rw (c.in_ok-version.ensures, c.in_ok-read_number.ensures, c.in_ok-cost.ensures, c.in_ok-bound.ensures, c.in_ok-plan.ensures.line, c.in_ok-paths.ensures.paths, c.in_ok-read_only.ensures) refl
