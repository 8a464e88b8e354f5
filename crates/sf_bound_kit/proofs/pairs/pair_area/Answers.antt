use Rattle.std.proofs.Common.{◌≤◌, All, map, ap, sym, subst, ◌∙◌, arith}
use Rattle.sf_bound_kit.proofs.Common.{area_of_two, each_two, greatest}
use Rattle.sf_bound_kit.proofs.Apart.{firsts-small, pairs-small}
use Rattle.sf_bound_kit.proofs.Sizes.{times, IsSmall}
use Rattle.sf_bound_kit.proofs.pairs.pair_area.Goals as goal

pub greatest_area-requires : goal.greatest_area-requires
greatest_area-requires c = subst (All IsSmall) (sym c.first_sides-count.ensures.sides) (firsts-small c.args.design.now c.args.node.now)

pub overflow_mul-result : goal.overflow_mul-result
overflow_mul-result c =
    let is = c.greatest_area.ensures ∙ ap (λ ss. greatest (map area_of_two (each_two ss))) c.first_sides-count.ensures.sides in
    let small : c.greatest_area.result ≤ 2199023255552 = omega (arith, is, pairs-small c.args.design.now c.args.node.now) in
    omega (arith, times c.from.result c.greatest_area.result 65535 2199023255552 (omega (arith, c.from.ensures, c.args.design.now.limits.area_weight)) small)
