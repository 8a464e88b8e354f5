use Rattle.std.proofs.Common.{map, string_bytes, sym, subst}
use Rattle.sf_batch.proofs.Common.{team_seen, BatchAnswers}
use Rattle.sf_batch.proofs.Answering.{answered_stop}
use Rattle.sf_batch.proofs.batch.answer.Goals as goal

pub returns-in-Err-clause-answer : goal.returns-in-Err-clause-answer
returns-in-Err-clause-answer g c =
    let words = map string_bytes c.args.words.now in
    let shelf = g.S.Shelf.seen c.args.shelf.now in
    let after = g.S.Shelf.seen c.answer_file.new.shelf in
    subst (λ t. BatchAnswers words shelf after t.status t.text) (sym c.answer_of.ensures)
    (answered_stop words (team_seen c.in-Some.words) shelf after c.in-Err.stop c.in-Some.ensures.means c.in-Err.ensures.refused c.in-Err.ensures.shelf.1)
