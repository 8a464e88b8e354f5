use Rattle.std.proofs.Common.{◌≡◌, List, [], subst, ◌∙◌}
use Rattle.sf_subsets.proofs.Common.{IfOk-weaker, IsCurveOf, Shape}
use Rattle.sf_subsets.proofs.Filled.{curve-of_none}
use Rattle.sf_subsets.proofs.table.empty_curve.Goals as goal

pub returns : goal.returns
returns c =
    IfOk-weaker c.of_shapes_in.result (IsCurveOf c.args.outline c.deref.result.now) (λ (curve : List Shape). curve ≡ [])
    (λ (curve : List Shape) h. curve-of_none c.args.outline curve (subst (λ v. IsCurveOf c.args.outline v curve) (c.deref.ensures.value ∙ c.new-none.ensures.items) h))
    c.of_shapes_in.ensures
