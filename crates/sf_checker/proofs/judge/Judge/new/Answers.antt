use Rattle.sf_checker.proofs.Judged.{found-start}
use Rattle.sf_checker.proofs.judge.Judge.new.Goals as goal

pub returns-clause-found : goal.returns-clause-found
returns-clause-found g c cert plan cost =
    found-start c.args.design.now (g.B.Values.value c.args.bounds.now c.args.design.now) (g.B.Bounds.part_value c.args.bounds.now c.args.design.now) cert c.in_ok-walk.walk c.args.cost c.in_ok-found.found (c.in_ok-found.ensures cert plan cost) c.in_ok-walk.ensures.start cost
