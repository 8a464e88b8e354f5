use Rattle.std.proofs.Common.{sym, subst}
use Rattle.sf_curves.proofs.Common.{IsPermutation, IsCurveOf}
use Rattle.sf_curves.proofs.Members.{IfOk-weaker}
use Rattle.sf_curves.proofs.Shapes.{curve_of_permutation}
use Rattle.sf_curves.proofs.of_shapes.points_of_shapes.Goals as goal

pub returns-clause-of_shapes : goal.returns-clause-of_shapes
returns-clause-of_shapes c =
    let shapes = c.args.shapes.now in
    let same = subst (IsPermutation shapes) (sym c.deref.ensures.value) c.in_ok-copy.ensures.same in
    IfOk-weaker _ (λ v. IsCurveOf c.args.outline shapes v.items) c.undominated_points-2.result
    (λ v h. curve_of_permutation c.args.outline shapes c.deref.result.now v.items same h) c.undominated_points-2.ensures.of_shapes
