use Rattle.std.proofs.Common.{◌≡◌, ℕ, ◌+◌, ◌∙◌, ◌-◌, ap, arith, Option, Result, IfOk}
use Rattle.sf_anneal.proofs.Common.{range_with_len, AllocError, nat_range, Expr, IsStart, first_least, lesser}
use Rattle.sf_anneal.proofs.Collected.{gave, gave-at, gave-count}
use Rattle.sf_anneal.proofs.Improved.{improved}
use Rattle.sf_anneal.proofs.starting.improved_starts.Goals as goal

pub returns : goal.returns
returns g c =
    let design = c.args.design.now in
    let seed = c.args.seed in
    let count = c.args.count in
    let moves = c.args.moves in
    let trials = c.args.trials in
    let extra = c.begun_count.result in
    let n = count + extra in
    let all = c.in_ok-results.ensures in
    let chain = rw (c.map.ensures.base, c.map.ensures.f) at all.1 in
    let found = rw c.in_ok-results-2.was at all.2 in
    let ends = c.into_par_iter.ensures in
    let end = ends.1 ∙ ap (λ z. z + extra) c.from.ensures in
    let base = c.with_min_len.ensures.base in
    let whole : n - 0 ≡ n = omega arith in
    let places = chain.1 ∙ (λ i. nat_range ((ap (λ r. r.start) base ∙ ends.0) i) ((ap (λ r. r.end) base ∙ end) i)) ∙ ap (range_with_len 0) whole in
    let P = λ (i : ℕ) (r : Result (Option (Expr × ℕ)) AllocError). IfOk r (IsStart design seed count moves trials i) in
    let given = gave P n chain.0 all.0 found.0 places found.1 chain.2 in
    let own = gave-at P (IsStart design seed count moves trials) 0 n found.0 (λ i y p. p) given in
    let many = gave-count P 0 n found.0 given in
    let least = c.first_least-least.ensures ∙ ap first_least found.2 in
    let is = c.lesser.ensures ∙ ap (λ z. lesser z c.begun_plan.result) least ∙ ap (lesser (first_least found.0)) c.begun_plan.ensures in
    let starts = improved design c.args.begin seed count moves trials extra found.0 c.lesser.result many c.begun_count.ensures.none (λ i d h. own i d i (omega arith) (omega (arith, h, many))) c.requires is in
    record { starts = starts; floorplan = starts.floorplan }
