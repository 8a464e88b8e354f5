use Rattle.sf_gsrc.proofs.Common.{err_from_is_err_and}
use Rattle.sf_gsrc.proofs.LineSteps.{fails, goes_on, is_done}
use Rattle.sf_gsrc.proofs.weights.take_lines.Goals as goal

pub loop-line-preserved : goal.loop-line-preserved
loop-line-preserved c = λ earlier keeps.
    goes_on _ _ _ _ _ _ _ _ (c.loop-line.invariant earlier keeps) c.in-Some.ensures.lines (rw c.loop-line.auto.kept at c.in_ok-take_line.ensures)

pub returns-in_err-take_line : goal.returns-in_err-take_line
returns-in_err-take_line c =
    let p = err_from_is_err_and c.from_residual.result c.from_residual.ensures.1 in
    rw (p.1, p.2) (λ earlier keeps. fails _ _ _ _ _ _ _ _ (c.loop-line.invariant earlier keeps) c.in-Some.ensures.lines (rw c.loop-line.auto.kept at c.in_err-take_line.ensures))

pub returns : goal.returns
returns c = λ earlier keeps. is_done _ _ _ _ _ (c.loop-line.invariant earlier keeps) c.in_default.ensures.lines
