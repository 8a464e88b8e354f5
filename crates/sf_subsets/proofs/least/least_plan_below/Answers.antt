use Rattle.std.proofs.Common.{◌≡◌, ◌-◌, ◌^◌, ap, subst, sym, ◌∙◌}
use Rattle.sf_subsets.proofs.Common.{AreMade, Contains, IsAreaFloor, IsPlanOfSize, MatchOption, block_count, curve_at, tree_of, IsFoundBelow}
use Rattle.sf_subsets.proofs.Areas.{least-plan}
use Rattle.sf_subsets.proofs.least.least_plan_below.Goals as goal

pub returns : goal.returns
returns c =
    let design = c.args.design.now in
    let found = c.in-Some.found in
    let h : IsFoundBelow design c.args.limit found =
    subst (λ v. MatchOption v (IsAreaFloor design c.args.limit) (IsFoundBelow design c.args.limit)) c.in-Some.is c.in_ok-found.ensures in
    let all : c.all_blocks-all.result ≡ 2 ^ block_count design - 1 = c.all_blocks-all.ensures ∙ ap (λ v. 2 ^ v - 1) c.block_count.ensures in
    let made : AreMade design c.deref.result.now = subst (AreMade design) (sym c.deref.ensures.value) h.made in
    let on : Contains (curve_at c.deref.result.now c.all_blocks-all.result) found.size =
    subst (λ v. Contains (curve_at v c.all_blocks-all.result) found.size) (sym c.deref.ensures.value)
    (subst (λ v. Contains (curve_at found.table.curves.items v) found.size) (sym all) h.on) in
    let plan : IsPlanOfSize design (2 ^ block_count design - 1) found.size (tree_of c.in_ok-plan.plan) =
    subst (λ v. IsPlanOfSize design v found.size (tree_of c.in_ok-plan.plan)) all (c.in_ok-plan.ensures design made on) in
    least-plan design c.args.limit found record { plan = c.in_ok-plan.plan; area = c.area-area.result } h plan c.area-area.ensures
