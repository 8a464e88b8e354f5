use Rattle.std.proofs.Common.{◌≡◌, ◌*◌, ap, sym, subst, ◌∙◌, arith, refl}
use Rattle.sf_bound.proofs.Common.{block_count, IsNormal, AreSpans, IsRootCurve, IsTraceOf, area_of, IsCheapest}
use Rattle.sf_bound.proofs.Spans.{curve_spans}
use Rattle.sf_bound.proofs.LeastArea.{normal, none-fits, least-small, cheapest}
use Rattle.sf_bound.proofs.solving.least_plan.Goals as goal

pub root_curve-requires-clause-normal : goal.root_curve-requires-clause-normal
root_curve-requires-clause-normal c =
    subst (IsNormal (block_count c.args.design.now)) (sym c.tokens-tokens.ensures) (normal c.args.design.now c.args.node.now c.requires.subproblem c.requires.complete)

pub root_curve-requires-clause-spans : goal.root_curve-requires-clause-spans
root_curve-requires-clause-spans c = subst (AreSpans c.args.design.now) (sym c.spans-spans.ensures) (curve_spans c.args.design.now c.args.node.now c.requires.subproblem)

pub trace-requires-clause-normal : goal.trace-requires-clause-normal
trace-requires-clause-normal c =
    subst (IsNormal (block_count c.args.design.now)) (sym c.tokens-tokens.ensures) (normal c.args.design.now c.args.node.now c.requires.subproblem c.requires.complete)

pub trace-requires-clause-spans : goal.trace-requires-clause-spans
trace-requires-clause-spans c = subst (AreSpans c.args.design.now) (sym c.spans-spans.ensures) (curve_spans c.args.design.now c.args.node.now c.requires.subproblem)

pub returns-in_default-clause-solution : goal.returns-in_default-clause-solution
returns-in_default-clause-solution c =
    let root = subst (λ v. IsRootCurve c.args.design.now c.args.node.now.tokens v c.in_ok-curve.curve) c.spans-spans.ensures (subst (λ v. IsRootCurve c.args.design.now v c.spans-spans.result.now c.in_ok-curve.curve) c.tokens-tokens.ensures c.in_ok-curve.ensures) in
    none-fits _ _ c.requires.subproblem c.requires.complete _ root (c.in_default.ensures.empty.0 refl)

pub overflow_mul-result : goal.overflow_mul-result
overflow_mul-result c =
    let root = subst (λ v. IsRootCurve c.args.design.now c.args.node.now.tokens v c.in_ok-curve.curve) c.spans-spans.ensures (subst (λ v. IsRootCurve c.args.design.now v c.spans-spans.result.now c.in_ok-curve.curve) c.tokens-tokens.ensures c.in_ok-curve.ensures) in
    let k = least-small _ _ c.requires.subproblem c.requires.complete _ root c.in-Some.point c.in-Some.ensures.least in
    rw (c.from.ensures, c.area.ensures) (omega (arith, k))

pub returns : goal.returns
returns c =
    let design = c.args.design.now in
    let node = c.args.node.now in
    let curve = c.in_ok-curve.curve in
    let point = c.in-Some.point in
    let expr = c.in_ok-expr.expr in
    let root = subst (λ v. IsRootCurve design node.tokens v curve) c.spans-spans.ensures (subst (λ v. IsRootCurve design v c.spans-spans.result.now curve) c.tokens-tokens.ensures c.in_ok-curve.ensures) in
    let traced = subst (λ v. IsTraceOf design node.tokens v point expr) c.spans-spans.ensures (subst (λ v. IsTraceOf design v c.spans-spans.result.now point expr) c.tokens-tokens.ensures c.in_ok-expr.ensures.traced) in
    let e : design.weights.area * area_of point ≡ c.from.result * c.area.result =
    ap (λ n. n * area_of point) (sym c.from.ensures) ∙ ap (λ n. c.from.result * n) (sym c.area.ensures) in
    record {
      solution = subst (IsCheapest design node expr) e
          (cheapest design node c.requires.subproblem c.requires.complete curve root point expr c.requires.no_wire c.in-Some.ensures.least c.in_ok-expr.ensures.one_each traced);
      traced = record { points = curve; point = point; curve = root; least = c.in-Some.ensures.least; trace = traced };
    }
