use Rattle.std.proofs.Common.{[], ◌∷◌, ◌++◌, List, sym, ap, ◌∙◌}
use Rattle.sf_gsrc.proofs.Common.{err_from_is_err_and, Place}
use Rattle.sf_gsrc.proofs.LineSteps.{goes_on, fails_unless, is_done}
use Rattle.sf_gsrc.proofs.places.read_lines.Goals as goal

pub returns-in_err-take_line : goal.returns-in_err-take_line
returns-in_err-take_line c =
    let p = err_from_is_err_and c.from_residual.result c.from_residual.ensures.1 in
    rw (p.1, p.2) (fails_unless _ _ _ _ _ _ c.in_err-take_line.field-0.0 _ c.loop-line.invariant c.in-Some.ensures.lines (λ past kept. c.in_err-take_line.ensures))

pub loop-line-preserved : goal.loop-line-preserved
loop-line-preserved c =
    let taken = c.in_ok-take_line.ensures in
    goes_on _ _ _ _ _ _ _ _ c.loop-line.invariant c.in-Some.ensures.lines (λ past kept. (taken.0, taken.1, ap (λ (ps : List Place). ps ++ taken.0 ∷ []) kept ∙ sym taken.2))

pub returns : goal.returns
returns c =
    let d = is_done _ _ _ _ _ c.loop-line.invariant c.in_default.ensures.lines in
    rw d.2 at d.1
