use Rattle.sf_batch.proofs.Tables.{given_after}
use Rattle.sf_batch.proofs.doing.give_job.Goals as goal

pub returns-in-Ok : goal.returns-in-Ok
returns-in-Ok g c = λ held lines fit all.
    given_after held lines c.args.team.now c.give.new.self c.args.job _ c.give.result c.give.ensures.given c.give.ensures.kept c.in-Ok.ensures.ok fit all
