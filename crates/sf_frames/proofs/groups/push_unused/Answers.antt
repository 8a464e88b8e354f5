use Rattle.std.proofs.Common.{refl, sym, subst, ◌∙◌}
use Rattle.sf_frames.proofs.Common.{not-true, not-false, shapes_in, IsCurveOf}
use Rattle.sf_frames.proofs.UnusedCurves.{adds-yes, adds-no}
use Rattle.sf_frames.proofs.groups.push_unused.Goals as goal

pub returns-in_ok-push : goal.returns-in_ok-push
returns-in_ok-push c =
    adds-yes c.args.design.now c.args.node.now c.args.block c.args.curves.now.items c.push.new.self.items c.in_ok-curve.curve
    (not-false _ (sym c.requires.used ∙ c.if-not-used.true))
    (subst (λ spans. IsCurveOf c.args.design.now.outline (shapes_in c.args.design.now spans c.args.block) c.in_ok-curve.curve) c.spans.ensures c.in_ok-curve.ensures)
    c.in_ok-push.ensures.items

pub returns-else-not-used : goal.returns-else-not-used
returns-else-not-used c = adds-no c.args.design.now c.args.node.now c.args.block c.args.curves.now.items c.args.curves.now.items (not-true _ (sym c.requires.used ∙ c.if-not-used.false)) refl
