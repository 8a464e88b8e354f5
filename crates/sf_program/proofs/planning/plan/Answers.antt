use Rattle.sf_program.proofs.Common.{plan_seen}
use Rattle.sf_program.proofs.Planned.{is-planned}
use Rattle.sf_program.proofs.planning.plan.Goals as goal

pub returns-clause-answer : goal.returns-clause-answer
returns-clause-answer g c =
    let input = c.in_ok-input.input in
    is-planned (plan_seen c.args.words.now) (g.S.Shelf.seen c.args.shelf.now).holds input.design input.begin _ _ _ _ _ c.in_ok-input.ensures.input c.in_ok-design.ensures.begins c.in_ok-work.ensures
