use Rattle.std.proofs.Common.{subst}
use Rattle.sf_subsets.proofs.Common.{AddsSmall, size_in, on_ok_weaker, IsCombination}
use Rattle.sf_subsets.proofs.Added.{combination-added}
use Rattle.sf_subsets.proofs.gathering.gather_joins.Goals as goal

pub returns : goal.returns
returns c =
    let a = c.args in
    let comb : IsCombination (size_in a.direction) a.outline a.first.now a.second.now c.combine.new.sizes.items =
    subst (λ v. IsCombination (size_in a.direction) a.outline v a.second.now c.combine.new.sizes.items) c.points.ensures.is
    (subst (λ v. IsCombination (size_in a.direction) a.outline c.points.result.now v c.combine.new.sizes.items) c.points-2.ensures.is c.in_ok-combine.ensures.combines) in
    on_ok_weaker c.push_small.result
    (λ (added : AddsSmall a.limit a.found.now.items c.deref.result.now c.push_small.new.found.items).
    combination-added a.direction a.outline a.limit a.first.now a.second.now c.combine.new.sizes.items a.found.now.items c.push_small.new.found.items comb
    (subst (λ v. AddsSmall a.limit a.found.now.items v c.push_small.new.found.items) c.deref.ensures.value added))
    c.push_small.ensures
