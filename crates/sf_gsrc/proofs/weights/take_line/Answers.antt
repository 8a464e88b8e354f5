use Rattle.std.proofs.Common.{Ok, Err, true, false, refl, sym, ◌∙◌}
use Rattle.sf_gsrc.proofs.Common.{err_from_is_err_and, line_of}
use Rattle.sf_gsrc.proofs.WeightSteps.{net_line, keeps_more}
use Rattle.sf_gsrc.proofs.weights.take_line.Goals as goal

pub returns-then-is_some : goal.returns-then-is_some
returns-then-is_some c = λ earlier keeps.
    net_line _ _ earlier (line_of c.args.line.now) _ _ _ _ true _ keeps c.in-Some.ensures c.in_ok-net.ensures.value c.if-net-kept.false (sym c.is_some.ensures ∙ c.if-is_some.true) refl

pub returns-in_err-weight : goal.returns-in_err-weight
returns-in_err-weight c =
    let p = err_from_is_err_and c.from_residual-in_err-weight.result c.from_residual-in_err-weight.ensures.1 in
    rw (p.1, p.2) (λ earlier keeps.
    net_line _ _ earlier (line_of c.args.line.now) _ _ _ _ false (Err _) keeps c.in-Some.ensures c.in_ok-net.ensures.value c.if-net-kept.false (sym c.is_some.ensures ∙ c.if-is_some.false) c.in_err-weight.ensures.value)

pub returns : goal.returns
returns c = λ earlier keeps.
    let new = sym c.is_some.ensures ∙ c.if-is_some.false in (
      _,
      net_line _ _ earlier (line_of c.args.line.now) _ _ _ _ false (Ok _) keeps c.in-Some.ensures c.in_ok-net.ensures.value c.if-net-kept.false new c.in_ok-weight.ensures.value,
      keeps_more _ _ earlier _ _ _ keeps c.if-net-kept.false new,
    )
