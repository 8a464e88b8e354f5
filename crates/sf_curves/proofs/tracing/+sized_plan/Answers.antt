use Rattle.std.proofs.Common.{ap, sym, subst, ◌∙◌, All}
use Rattle.sf_curves.proofs.Common.{tree_of, IsNoLarger, IsJoinOf, beside_size, above_size, curve_of, IsTraced, size_of}
use Rattle.sf_curves.proofs.tracing.+sized_plan.Goals as goal

pub beside_points-points-requires-clause-joined : goal.beside_points-points-requires-clause-joined
beside_points-points-requires-clause-joined t c =
    subst (λ ls. All (IsJoinOf beside_size ls c.curve-in-Beside.result.now) c.in-Beside.curve) (sym (c.curve.ensures ∙ ap curve_of c.deref.ensures))
    (subst (λ rs. All (IsJoinOf beside_size (curve_of c.in-Beside.left.value) rs) c.in-Beside.curve) (sym (c.curve-in-Beside.ensures ∙ ap curve_of c.deref-in-Beside.ensures))
    (subst IsTraced c.in-Beside.is c.requires.traced).0)

pub returns-in_ok-new-in-Beside-2-clause-size : goal.returns-in_ok-new-in-Beside-2-clause-size
returns-in_ok-new-in-Beside-2-clause-size t c =
    subst (λ v. IsNoLarger (beside_size (size_of (tree_of v)) (size_of (tree_of c.in_ok-new-in-Beside-2.field-0.value))) c.args.point) (sym c.in_ok-new-in-Beside.ensures.ok)
    (subst (λ v. IsNoLarger (beside_size (size_of (tree_of c.in_ok-left-in-Beside.left)) (size_of (tree_of v))) c.args.point) (sym c.in_ok-new-in-Beside-2.ensures.ok)
    (c.beside_points-points.ensures.small (size_of (tree_of c.in_ok-left-in-Beside.left)) (size_of (tree_of c.in_ok-right-in-Beside.right)) c.in_ok-left-in-Beside.ensures.size c.in_ok-right-in-Beside.ensures.size))

pub above_points-points-requires-clause-joined : goal.above_points-points-requires-clause-joined
above_points-points-requires-clause-joined t c =
    subst (λ ls. All (IsJoinOf above_size ls c.curve-in-Above-2.result.now) c.in-Above.curve) (sym (c.curve-in-Above.ensures ∙ ap curve_of c.deref-in-Above.ensures))
    (subst (λ rs. All (IsJoinOf above_size (curve_of c.in-Above.lower.value) rs) c.in-Above.curve) (sym (c.curve-in-Above-2.ensures ∙ ap curve_of c.deref-in-Above-2.ensures))
    (subst IsTraced c.in-Above.is c.requires.traced).0)

pub returns-in_ok-new-in-Above-2-clause-size : goal.returns-in_ok-new-in-Above-2-clause-size
returns-in_ok-new-in-Above-2-clause-size t c =
    subst (λ v. IsNoLarger (above_size (size_of (tree_of v)) (size_of (tree_of c.in_ok-new-in-Above-2.field-0.value))) c.args.point) (sym c.in_ok-new-in-Above.ensures.ok)
    (subst (λ v. IsNoLarger (above_size (size_of (tree_of c.in_ok-lower-in-Above.lower)) (size_of (tree_of v))) c.args.point) (sym c.in_ok-new-in-Above-2.ensures.ok)
    (c.above_points-points.ensures.small (size_of (tree_of c.in_ok-lower-in-Above.lower)) (size_of (tree_of c.in_ok-upper-in-Above.upper)) c.in_ok-lower-in-Above.ensures.size c.in_ok-upper-in-Above.ensures.size))
