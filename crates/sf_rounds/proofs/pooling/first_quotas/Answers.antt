use Rattle.std.proofs.Common.{ℕ, [], ◌∷◌, ◌++◌, take, get_or, ap, subst, sym, arith}
use Rattle.sf_rounds.proofs.Common.{Begins, EachTwo, sum, sum_by_push, take_more}
use Rattle.sf_rounds.proofs.Pairs.{each_two-push}
use Rattle.sf_rounds.proofs.pooling.first_quotas.Goals as goal

pub loop-quota-preserved : goal.loop-quota-preserved
loop-quota-preserved c =
    let quotas = c.args.quotas.now in
    let i = c.loop-quota.quota-index in
    let quota : ℕ = get_or quotas i 0 in
    let first = c.loop-quota.first.items in
    let one = c.min-one.result in
    let more = take_more quotas i 0 c.loop-quota-test.true in
    let kept = c.loop-quota.invariant in
    record {
      each = subst (λ qs. EachTwo Begins qs c.push.new.self.items) (sym more)
          (subst (EachTwo Begins (take i quotas ++ quota ∷ [])) (sym c.in_ok-push.ensures.items) (each_two-push Begins (take i quotas) first quota one kept.each (λ some. omega (arith, some, c.max.ensures, c.min-one.ensures))));
      within = omega (arith, kept.within, ap sum more, ap sum c.in_ok-push.ensures.items, sum_by_push (λ (k : ℕ). k) (take i quotas) quota, sum_by_push (λ (k : ℕ). k) first one, c.saturating_add-rest.ensures, c.min-one.ensures);
    }
