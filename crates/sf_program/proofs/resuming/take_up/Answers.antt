use Rattle.std.proofs.Common.{inl, ap, refl, ◌∙◌}
use Rattle.sf_program.proofs.Common.{resume_seen, is_yes}
use Rattle.sf_program.proofs.ByChoice.{no-good}
use Rattle.sf_program.proofs.Continued.{rejected, sum-past, taken-up}
use Rattle.sf_program.proofs.resuming.take_up.Goals as goal

pub returns-in-Yes-clause-answer : goal.returns-in-Yes-clause-answer
returns-in-Yes-clause-answer g c =
    let takes = c.in_ok-answer.ensures.takes (ap is_yes c.in-Yes.is) in
    taken-up (resume_seen c.args.words.now) c.args.design.now c.answer_cert.new.design c.args.cert c.go_on_within.result takes c.go_on_within.ensures.answer

pub returns-in-Yes-clause-refused : goal.returns-in-Yes-clause-refused
returns-in-Yes-clause-refused g c =
    let e = c.in_ok-answer.ensures in
    let yes = ap is_yes c.in-Yes.is in
    sum-past (resume_seen c.args.words.now) c.args.design.now c.answer_cert.new.design c.args.cert c.go_on_within.result (c.answer_cert.new.design, e.takes yes, e.good yes) e.blocks c.go_on_within.ensures.refused

pub returns-in_ok-answer_work-in-No-clause-answer : goal.returns-in_ok-answer_work-in-No-clause-answer
returns-in_ok-answer_work-in-No-clause-answer g c =
    let told = c.in_ok-answer_work-in-No.ensures in
    inl (rejected c.args.words.now.bounds c.args.design.now c.args.cert c.in_ok-answer.answer c.in-No.field-0 c.in_ok-answer_work-in-No.field-0 c.in-No.is c.in_ok-answer.ensures.answer told.status (told.stores ∙ c.no_stores.ensures) told.text)

pub returns-in_ok-answer_work-in-No-clause-within : goal.returns-in_ok-answer_work-in-No-clause-within
returns-in_ok-answer_work-in-No-clause-within g c =
    (refl, λ good. absurd (no-good c.args.words.now.bounds c.args.design.now c.args.cert c.in_ok-answer.answer c.in-No.field-0 c.in-No.is c.in_ok-answer.ensures.answer good))
