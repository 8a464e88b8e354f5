use Rattle.sf_checker.proofs.Fed.{body-start}
use Rattle.sf_checker.proofs.stage.Body.new.Goals as goal

pub returns-clause-reads : goal.returns-clause-reads
returns-clause-reads g c =
    body-start c.args.design.now (g.B.Values.value c.args.bounds.now c.args.design.now) (g.B.Bounds.part_value c.args.bounds.now c.args.design.now) c.args.opening.now c.block_count.result c.in_ok-header.header c.in_ok-header.reader c.in_ok-judge.judge c.block_count.ensures
    c.in_ok-header.ensures.agrees c.in_ok-header.ensures.writable c.in_ok-header.ensures.reads c.in_ok-judge.ensures.found
