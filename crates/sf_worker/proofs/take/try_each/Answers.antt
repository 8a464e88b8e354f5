use Rattle.std.proofs.Common.{◌≡◌, ℕ, ◌+◌, ◌<◌, length, ap, ◌∙◌, arith, suc, subst, slice_set}
use Rattle.sf_worker.proofs.Common.{ThiefView}
use Rattle.sf_worker.proofs.Thieves.{Tried, tried-none, tried-one_more, tried-length, tried-rose, tried-fell, tried-deques, tried-weigh, same_deques, fell_set, weigh_set}
use Rattle.sf_worker.proofs.take.try_each.Goals as goal

pub loop-i-init : goal.loop-i-init
loop-i-init g c = tried-none _

pub returns-in-Some : goal.returns-in-Some
returns-in-Some g c =
    let h = c.loop-i.invariant in
    let ts = c.args.thieves.now.items in
    let us = c.loop-i.thieves.items in
    let i = c.loop-i.i in
    let below : i < length us = omega (arith, tried-length i ts us h) in
    let v = c.index_mut-thief.ensures.value in
    let t = c.in-Some.ensures.taken in (
      same_deques us i _ _ below v (ap (λ (u : ThiefView). u.deque) t.0) ∙ tried-deques i ts us h,
      fell_set ts us i _ _ v (ap (λ (u : ThiefView). u.empty_takes) t.0) (tried-fell i ts us h),
      t.1,
      (λ w. weigh_set w us i _ _ c.in-Some.task below v (ap (λ (u : ThiefView). u.taken) t.0) ∙ ap (λ n. n + w c.in-Some.task) (tried-weigh w i ts us h)),
      λ e. absurd (cc),
    )

pub loop-i-preserved : goal.loop-i-preserved
loop-i-preserved g c =
    let h = c.loop-i.invariant in
    let ts = c.args.thieves.now.items in
    let us = c.loop-i.thieves.items in
    let i = c.loop-i.i in
    let e : suc i ≡ i + 1 = omega arith in
    subst (λ (n : ℕ). Tried n ts (slice_set us i c.take.new.self)) e (tried-one_more i ts us _ _ h (omega (arith, tried-length i ts us h)) c.index_mut-thief.ensures.value c.in_default.ensures.taken)

pub returns : goal.returns
returns g c =
    let h = c.loop-i.invariant in
    let ts = c.args.thieves.now.items in
    let us = c.loop-i.thieves.items in
    let i = c.loop-i.i in (
      tried-deques i ts us h,
      tried-fell i ts us h,
      tt,
      (λ w. omega (arith, tried-weigh w i ts us h)),
      λ e. tried-rose i ts us h (omega (arith, tried-length i ts us h)),
    )
