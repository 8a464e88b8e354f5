use Rattle.std.proofs.Common.{◌≡◌, ◌+◌, ◌*◌, ◌-◌, ◌^◌, ◌<◌, ◌≤◌, List, [], min, arith, ap, subst, ◌∙◌, Option, Some, None, MatchOption}
use Rattle.sf_subsets.proofs.Common.{All, IsAreaFloor, IsFoundBelow, IsLeastArea, Shape, area_of, block_count, curve_at, get_or_default, total}
use Rattle.sf_subsets.proofs.Bits.{below_power}
use Rattle.sf_subsets.proofs.Areas.{floor-by_total, floor-whole, least-found}
use Rattle.sf_subsets.proofs.found.find_below.Goals.{After-least_below}
use Rattle.sf_subsets.proofs.found.find_below.Goals as goal

pub returns-then-limit-total : goal.returns-then-limit-total
returns-then-limit-total c =
    let design = c.args.design.now in
    let leasts = c.in_ok-leasts.leasts.items in
    let all : c.all_blocks-all.result ≡ 2 ^ block_count design - 1 = c.all_blocks-all.ensures ∙ ap (λ v. 2 ^ v - 1) c.block_count.ensures in
    let sum : c.total_of-total.result ≡ total leasts (2 ^ block_count design - 1) =
    c.total_of-total.ensures.is ∙ ap (λ v. total v c.all_blocks-all.result) c.deref.ensures.value ∙ ap (total leasts) all in
    let cut : c.min-limit.result ≡ min c.args.limit (design.outline.w * design.outline.h + 1) = omega (arith, c.min-limit.ensures, c.outline_area.ensures.is) in
    floor-whole design c.args.limit c.min-limit.result cut
    (floor-by_total design leasts c.min-limit.result c.in_ok-leasts.ensures.leasts (omega (arith, sum, c.if-limit-total.true)))

-- what the curve of all blocks says
found : (c : After-least_below) (size : Option Shape) → MatchOption size (All (λ p. c.min-limit.result ≤ area_of p) c.index.result.now) (λ p. (area_of p < c.min-limit.result) × IsLeastArea c.index.result.now p) → MatchOption size (IsAreaFloor c.args.design.now c.args.limit) (λ p. IsFoundBelow c.args.design.now c.args.limit record { table = c.in_ok-table.table; size = p })
found c size h =
    let design = c.args.design.now in
    let leasts = c.in_ok-leasts.leasts.items in
    let n = block_count design in
    let curves = c.in_ok-table.table.curves.items in
    let all : c.all_blocks-all.result ≡ 2 ^ n - 1 = c.all_blocks-all.ensures ∙ ap (λ v. 2 ^ v - 1) c.block_count.ensures in
    let sum : c.total_of-total.result ≡ total leasts (2 ^ n - 1) =
    c.total_of-total.ensures.is ∙ ap (λ v. total v c.all_blocks-all.result) c.deref.ensures.value ∙ ap (total leasts) all in
    let cut : c.min-limit.result ≡ min c.args.limit (design.outline.w * design.outline.h + 1) = omega (arith, c.min-limit.ensures, c.outline_area.ensures.is) in
    let is : c.min-limit.result ≡ total leasts (2 ^ n - 1) + (c.min-limit.result - 1 - c.total_of-total.result) + 1 = omega (arith, sum, c.if-limit-total.false) in
    let at : c.index.result.now ≡ curve_at curves (2 ^ n - 1) =
    c.index.ensures ∙ get_or_default curves c.all_blocks-all.result c.index.result.now [] (omega (arith, all, c.in_ok-table.ensures.count, below_power n)) ∙ ap (curve_at curves) all in
    let P : List Shape → Type 0 = λ v. MatchOption size (All (λ p. c.min-limit.result ≤ area_of p) v) (λ p. (area_of p < c.min-limit.result) × IsLeastArea v p) in
    least-found design _ c.min-limit.result c.args.limit c.in_ok-table.table c.in_ok-table.ensures is cut size (subst P at h)

pub returns-in-Some : goal.returns-in-Some
returns-in-Some c = found (goal.at.returns-in-Some c).After-least_below (Some c.in-Some.size) c.in-Some.ensures

pub returns-in-None : goal.returns-in-None
returns-in-None c = found (goal.at.returns-in-None c).After-least_below None c.in-None.ensures
