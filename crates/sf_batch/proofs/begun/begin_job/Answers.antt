use Rattle.std.proofs.Common.{refl, sym, subst}
use Rattle.sf_batch.proofs.Common.{plan_seen, told_seen, LineComesTo}
use Rattle.sf_batch.proofs.Coming.{meaningless, stopped, built}
use Rattle.sf_batch.proofs.begun.begin_job.Goals as goal

pub returns-in_default-clause-begins : goal.returns-in_default-clause-begins
returns-in_default-clause-begins g c = λ line says.
    meaningless (g.S.Shelf.seen c.args.shelf.now).holds line (told_seen c.usage_answer.result) (rw c.in_default.is at says) c.usage_answer.ensures

pub returns-in-Ok-clause-begins : goal.returns-in-Ok-clause-begins
returns-in-Ok-clause-begins g c = λ line says. (
  refl,
  built (g.S.Shelf.seen c.args.shelf.now).holds line (plan_seen c.in-Some.words) (record { number = c.args.number; nodes = c.in-Some.words.nodes; design = c.in-Ok.design }) (rw c.in-Some.is at says) c.in-Ok.ensures.design refl,
)

pub returns-in-Err-clause-begins : goal.returns-in-Err-clause-begins
returns-in-Err-clause-begins g c = λ line says.
    subst (LineComesTo (g.S.Shelf.seen c.args.shelf.now).holds line) (sym c.answer_of.ensures)
    (stopped (g.S.Shelf.seen c.args.shelf.now).holds line (plan_seen c.in-Some.words) c.in-Err.stop (rw c.in-Some.is at says) c.in-Err.ensures.design)
