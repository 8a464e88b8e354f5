use Rattle.std.proofs.Common.{◌≡◌, sym, subst}
use Rattle.sf_anneal.proofs.Common.{Fits, IsLegal, cost, tree_of, spells-one, AreSpans, IsTraced, IsRootCurve, IsTraceOf}
use Rattle.sf_anneal.proofs.Spans.{whole-are}
use Rattle.sf_anneal.proofs.Tracing.{choice-fits, choice-legal, traced-floorplan}
use Rattle.sf_anneal.proofs.measuring.measure.Goals as goal

pub root_curve-requires-clause-spans : goal.root_curve-requires-clause-spans
root_curve-requires-clause-spans c = subst (AreSpans c.args.design.now) (sym c.requires.whole) (whole-are c.args.design.now)

pub trace-requires-clause-spans : goal.trace-requires-clause-spans
trace-requires-clause-spans c = subst (AreSpans c.args.design.now) (sym c.requires.whole) (whole-are c.args.design.now)

pub cost-requires-clause-legal : goal.cost-requires-clause-legal
cost-requires-clause-legal c =
    let design = c.args.design.now in
    let t = subst (λ v. IsTraceOf design c.args.tokens.now v c.in-Some.point c.in_ok-expr.expr) c.requires.whole c.in_ok-expr.ensures.traced in
    subst (IsLegal design) (spells-one c.in_ok-expr.expr t.tree (tree_of c.in_ok-plan.plan) t.spells c.in_ok-plan.ensures.spelled) (choice-legal design c.args.tokens.now t.tree c.requires.normal t.choice)

pub cost-requires-clause-fits : goal.cost-requires-clause-fits
cost-requires-clause-fits c =
    let design = c.args.design.now in
    let t = subst (λ v. IsTraceOf design c.args.tokens.now v c.in-Some.point c.in_ok-expr.expr) c.requires.whole c.in_ok-expr.ensures.traced in
    let root = subst (λ v. IsRootCurve design c.args.tokens.now v c.in_ok-curve.curve) c.requires.whole c.in_ok-curve.ensures in
    subst (Fits design.outline) (spells-one c.in_ok-expr.expr t.tree (tree_of c.in_ok-plan.plan) t.spells c.in_ok-plan.ensures.spelled)
    (choice-fits design c.args.tokens.now c.in_ok-curve.curve c.in-Some.point t.tree root c.in-Some.ensures.least.found t.size)

pub returns : goal.returns
returns c =
    let design = c.args.design.now in
    let t = subst (λ v. IsTraceOf design c.args.tokens.now v c.in-Some.point c.in_ok-expr.expr) c.requires.whole c.in_ok-expr.ensures.traced in
    let traced : IsTraced design c.args.tokens.now c.in_ok-expr.expr c.in_ok-cost.cost = record {
      points = c.in_ok-curve.curve;
      point = c.in-Some.point;
      curve = subst (λ v. IsRootCurve design c.args.tokens.now v c.in_ok-curve.curve) c.requires.whole c.in_ok-curve.ensures;
      least = c.in-Some.ensures.least;
      trace = t;
      one_each = c.in_ok-expr.ensures.one_each;
      costs = subst (λ p. c.in_ok-cost.cost ≡ cost design p) (sym (spells-one c.in_ok-expr.expr t.tree (tree_of c.in_ok-plan.plan) t.spells c.in_ok-plan.ensures.spelled)) c.in_ok-cost.ensures.cost;
    } in
    record { measure = traced; floorplan = traced-floorplan design c.args.tokens.now c.in_ok-expr.expr c.in_ok-cost.cost c.requires.normal traced }
