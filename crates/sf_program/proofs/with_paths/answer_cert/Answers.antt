use Rattle.std.proofs.Common.{Ok, ap, subst, IfSome}
use Rattle.sf_program.proofs.Common.{Breaks, Takes}
use Rattle.sf_program.proofs.ByChoice.{behind}
use Rattle.sf_program.proofs.with_paths.answer_cert.Goals as goal

pub returns-clause-answer : goal.returns-clause-answer
returns-clause-answer c =
    let bounds = c.args.bounds in
    let design = c.args.design.now in
    let routed = c.take_paths.new.design in
    let wrong = c.in_ok-wrong.wrong in
    let e = c.in_ok-wrong.ensures in
    let same = c.in_ok-paths.ensures in
    behind bounds design routed c.args.cert.now c.in_ok-found.found c.with_wrong_path.result wrong (λ none. subst (λ ps. Takes bounds design ps routed) same (e.taken (ap Ok none)))
    (subst (λ ps. IfSome wrong (Breaks bounds design ps)) same e.wrong) e.kept c.in_ok-found.ensures.answer c.with_wrong_path.ensures.wrong c.with_wrong_path.ensures.none
