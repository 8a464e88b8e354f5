use Rattle.std.proofs.Common.{◌≡◌, ℕ, ◌∙◌, ◌-◌, ap, sym, subst, arith, Option, Result, IfOk, IfSome}
use Rattle.sf_anneal.proofs.Common.{range_with_len, AllocError, nat_range, Expr, IsFloorplan, IsOwnWalk, first_least}
use Rattle.sf_anneal.proofs.Least.{least-one}
use Rattle.sf_anneal.proofs.Collected.{gave, gave-at, gave-count}
use Rattle.sf_anneal.proofs.starting.starts.Goals as goal

pub returns : goal.returns
returns g c =
    let design = c.args.design.now in
    let seed = c.args.seed in
    let moves = c.args.moves in
    let n = c.args.count in
    let all = c.in_ok-results.ensures in
    let chain = rw (c.map.ensures.base, c.map.ensures.f) at all.1 in
    let found = rw c.in_ok-results-2.was at all.2 in
    let ends = c.into_par_iter.ensures in
    let end = ends.1 ∙ c.from.ensures in
    let base = c.with_min_len.ensures.base in
    let whole : n - 0 ≡ n = omega arith in
    let places = chain.1 ∙ (λ i. nat_range ((ap (λ r. r.start) base ∙ ends.0) i) ((ap (λ r. r.end) base ∙ end) i)) ∙ ap (range_with_len 0) whole in
    let P = λ (i : ℕ) (r : Result (Option (Expr × ℕ)) AllocError). IfOk r (IsOwnWalk design seed moves i) in
    let given = gave P n chain.0 all.0 found.0 places found.1 chain.2 in
    let own = gave-at P (IsOwnWalk design seed moves) 0 n found.0 (λ i y p. p) given in
    let many = gave-count P 0 n found.0 given in
    let least = c.first_least.ensures ∙ ap first_least found.2 in
    record {
      starts = record { results = found.0; many = many; walks = λ i d h. (own i d i (omega arith) h).walk; least = least };
      floorplan = subst (λ r. IfSome r (λ pair. IsFloorplan design pair.0 pair.1)) (sym least)
          (least-one (λ pair. IsFloorplan design pair.0 pair.1) found.0 (λ k d h. (own k d k (omega arith) (omega (arith, h, many))).floorplan));
    }
