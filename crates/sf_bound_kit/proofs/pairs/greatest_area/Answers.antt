use Rattle.std.proofs.Common.{rules, ◌≡◌, max, suc, map, All, arith, subst}
use Rattle.sf_bound_kit.proofs.Common.{area_of_two, each_two, greatest}
use Rattle.sf_bound_kit.proofs.EachTwo.{greatest-next}
use Rattle.sf_bound_kit.proofs.Sizes.{IsSmall}
use Rattle.sf_bound_kit.proofs.pairs.greatest_area.Goals as goal

pub loop-first-preserved : goal.loop-first-preserved
loop-first-preserved c =
    let becomes : c.max-most.result ≡ max c.loop-first.most c.greatest_with.result = search rules in (
      greatest-next area_of_two c.in-Some.first.now c.in-Some.others.now c.loop-first.rest.now c.loop-first.most c.greatest_with.result c.max-most.result (greatest (map area_of_two (each_two c.args.sides.now)))
          c.in-Some.ensures.cases.0 c.greatest_with.ensures becomes c.loop-first.invariant.0,
      λ k d lt. subst (All IsSmall) c.in-Some.ensures.cases.0 c.loop-first.invariant.1 (suc k) d (omega (arith, lt)),
    )
