use Rattle.std.proofs.Common.{◌≡◌, ◌∙◌, sym, arith}
use Rattle.sf_anneal.proofs.Common.{OnTrue_from, nat_tests, common_steps}
use Rattle.std.proofs.lemmas.Slice.Eq.{slice_eq-Decides}
use Rattle.sf_curves.proofs.OnCurve.{same_point}
use Rattle.sf_anneal.proofs.parts.are_same.Goals as goal

pub returns : goal.returns
returns c =
    OnTrue_from c.eq.result (c.args.curve.now ≡ c.args.other.now)
    (λ t. sym c.points.ensures.is
    ∙ (slice_eq-Decides (λ a b. (λ e. same_point a b (grind (arith, common_steps, nat_tests)) (grind (arith, common_steps, nat_tests)), λ s. grind (arith, common_steps, nat_tests))) c.points.result.now c.points-2.result.now c.eq.result c.eq.ensures).0 t
    ∙ c.points-2.ensures.is)
