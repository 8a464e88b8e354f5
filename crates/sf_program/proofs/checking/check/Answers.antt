use Rattle.std.proofs.Common.{Option, Err, IfOk, subst}
use Rattle.sf_program.proofs.Common.{IfErr, Contents, block_count, check_seen, CertRead, JudgedFile, Stops, stored_in}
use Rattle.sf_program.proofs.Pieces.{check-obeyed}
use Rattle.sf_program.proofs.checking.check.Goals as goal

pub returns-clause-answer : goal.returns-clause-answer
returns-clause-answer g c =
    let o = check_seen c.args.words.now in
    let design = c.in_ok-design.design in
    let same = c.in_ok-design.ensures.shelf.0.unchanged in
    check-obeyed (g.S.Shelf.seen c.args.shelf.now).holds o design c.in_ok-design.ensures.design c.check_file.result
    (subst (λ (h : Option Contents). IfOk c.check_file.result (λ w. JudgedFile o.bounds o.is_long h o.cert design o.rewrite w.status (stored_in w.stores.items) w.text.items)) same c.check_file.ensures.answer)
    (subst (λ (h : Option Contents). IfErr c.check_file.result (λ stop. Stops stop (λ why. CertRead o.is_long h o.cert (block_count design) (Err why)))) same c.check_file.ensures.refused)
