use Rattle.std.proofs.Common.{Option, Ok, Err, subst}
use Rattle.sf_program.proofs.Common.{err_from_is_err_and, Contents, Stops, CertLoaded, resume_seen}
use Rattle.sf_program.proofs.Continued.{resume-obeyed, resume-stops}
use Rattle.sf_program.proofs.resuming.resume.Goals as goal

pub returns-in_err-cert-clause-answer : goal.returns-in_err-cert-clause-answer
returns-in_err-cert-clause-answer g c =
    let held = (g.S.Shelf.seen c.args.shelf.now).holds in
    let o = resume_seen c.args.words.now in
    let design = c.in_ok-design.design in
    let stop = c.in_err-cert.field-0.0 in
    let failed : Stops stop (λ why. CertLoaded o.is_long held o.cert design (Err why)) =
    subst (λ (h : Option Contents). Stops stop (λ why. CertLoaded o.is_long h o.cert design (Err why))) c.in_ok-design.ensures.shelf.0.unchanged c.in_err-cert.ensures.cert in
    let p = err_from_is_err_and c.from_residual-in_err-cert.result c.from_residual-in_err-cert.ensures.1 in
    rw (p.1, p.2) (resume-stops held o design c.in_ok-design.ensures.design stop failed)

pub returns-clause-answer : goal.returns-clause-answer
returns-clause-answer g c =
    let o = resume_seen c.args.words.now in
    let held = (g.S.Shelf.seen c.args.shelf.now).holds in
    let design = c.in_ok-design.design in
    let same = c.in_ok-design.ensures.shelf.0.unchanged in
    let cert = c.in_ok-cert.cert in
    resume-obeyed held o design c.in_ok-design.ensures.design cert (subst (λ (h : Option Contents). CertLoaded o.is_long h o.cert design (Ok cert)) same c.in_ok-cert.ensures.cert)
    c.take_up.result c.take_up.ensures.answer c.take_up.ensures.within c.take_up.ensures.refused
