use Rattle.std.proofs.Common.{◌≡◌, ◌+◌, ◌<◌, ◌^◌, ◌⊎◌, List, [], inl, inr, arith, ap, sym, subst, ◌∙◌}
use Rattle.sf_subsets.proofs.Common.{AddsSmall, AddsSplits, IfOk-weaker, IsCurveOf, IsPart, Shape, limit_of, shapes_of, IsSetCurve}
use Rattle.sf_subsets.proofs.Bits.{part-of_set}
use Rattle.sf_subsets.proofs.Filled.{set-filled}
use Rattle.sf_subsets.proofs.table.set_curve.Goals as goal
use Rattle.sf_subsets.proofs.table.set_curve.Goals.{then-rest-eq0+in_ok-push_small, else-rest-eq0}

pub gather_splits-requires-clause-part : goal.gather_splits-requires-clause-part
gather_splits-requires-clause-part c =
    subst (IsPart c.args.rest) (sym c.requires.table.count) (part-of_set c.args.block c.args.rest c.args.rest c.requires.below (λ i. omega arith))

pub returns : goal.returns
returns c =
    let a = c.args in
    let design = a.design.now in
    let curves = a.table.now.curves.items in
    let set = 2 ^ a.block + a.rest in
    let limit = c.limit-limit.result in
    let begun = c.if-rest-eq0.found.items in
    let found = c.gather_splits.new.found.items in
    let count : c.len.result ≡ set = omega (arith, c.len.ensures, c.requires.table.count) in
    let is : limit ≡ limit_of a.budget.now set = c.limit-limit.ensures.is ∙ ap (limit_of a.budget.now) count in
    let how : ((a.rest ≡ 0) × AddsSmall limit [] (shapes_of design a.block) begun) ⊎ ((0 < a.rest) × (begun ≡ [])) =
    elim c.if-rest-eq0.branch [
      | then-rest-eq0+in_ok-push_small w ↦ inl (
        w.if-rest-eq0.true,
        subst (λ v. AddsSmall limit [] (shapes_of design a.block) v) (sym (ap (λ v. v.items) w.found-is))
            (subst (λ v. AddsSmall limit [] v w.push_small.new.found.items) w.shapes_of.ensures
            (subst (λ v. AddsSmall limit v w.shapes_of.result.now w.push_small.new.found.items) c.clear.ensures.items w.in_ok-push_small.ensures)),
      )
      | else-rest-eq0 w ↦ inr (omega (arith, w.if-rest-eq0.false), ap (λ v. v.items) w.found-is ∙ c.clear.ensures.items)
    ] in
    let added : AddsSplits design.outline limit curves set a.rest 0 begun found =
    subst (λ v. AddsSplits design.outline limit curves v a.rest 0 begun found) c.requires.table.count c.in_ok-gather_splits.ensures in
    IfOk-weaker c.of_shapes_in.result (IsCurveOf design.outline c.deref.result.now) (IsSetCurve design a.budget.now curves set)
    (λ (points : List Shape) h.
    set-filled design a.budget.now a.table.now a.block a.rest limit begun found points c.requires.below c.requires.leasts is c.requires.table how added
    (subst (λ v. IsCurveOf design.outline v points) c.deref.ensures.value h))
    c.of_shapes_in.ensures
