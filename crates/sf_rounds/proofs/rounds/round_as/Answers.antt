use Rattle.std.proofs.Common.{◌≡◌, refl, ℕ, ◌++◌, List, ◌≤◌, length, map, min, ap, sym, ◌∙◌, subst, arith}
use Rattle.sf_rounds.proofs.Common.{sum, slice_index_or, All-weaker, MAX, Stretch, IsTeam, Knows, IsStretch, Begins, Dealt, place_of}
use Rattle.sf_rounds.proofs.Grown.{all_pass, larger-dealt, larger-many, larger-some, quota_of, quotas-sum}
use Rattle.sf_rounds.proofs.Pairs.{begins-some}
use Rattle.sf_rounds.proofs.Team.{each_two-length, team_same, all_deques, all_parts}
use Rattle.sf_rounds.proofs.Whole.{all_done, all_went}
use Rattle.sf_rounds.proofs.Rounded.{round-within, rounded}
use Rattle.sf_rounds.proofs.rounds.round_as.Goals as goal

pub run_pooled-requires-clause-ready : goal.run_pooled-requires-clause-ready
run_pooled-requires-clause-ready g c κs within =
    let design = c.args.design.now in
    let dealt = c.in_ok-jobs.ensures.dealt in
    all_pass design (g.B.Values.value c.args.bounds.now design) c.in_ok-word.seat.seen c.in_ok-word.word c.in_ok-jobs.jobs.items dealt.fresh dealt.first_are

pub gather-requires-clause-done : goal.gather-requires-clause-done
gather-requires-clause-done g c =
    let design = c.args.design.now in
    let bound = g.B.Values.value c.args.bounds.now design in
    let part = g.B.Bounds.part_value c.args.bounds.now design in
    let all = c.in_ok-jobs-2.ensures in
    let dealt = larger-dealt design bound c.in_ok-word.seat.seen c.in_ok-word.word c.args.work.stretches.items c.deref.result.now c.in_ok-jobs.jobs.items all.larger all.are c.in_ok-jobs.ensures.dealt in
    all_done design bound part c.in_ok-word.seat.seen c.in_ok-word.word all.larger c.in_ok-jobs-2.jobs.items all.ran dealt.fresh

pub finish-requires : goal.finish-requires
finish-requires g c =
    let design = c.args.design.now in
    let bound = g.B.Values.value c.args.bounds.now design in
    let part = g.B.Bounds.part_value c.args.bounds.now design in
    let all = c.in_ok-jobs-2.ensures in
    let ks = c.in_ok-jobs-2.jobs.items in
    let dealt = larger-dealt design bound c.in_ok-word.seat.seen c.in_ok-word.word c.args.work.stretches.items c.deref.result.now c.in_ok-jobs.jobs.items all.larger all.are c.in_ok-jobs.ensures.dealt in
    let d = all_deques design bound part all.larger ks (all_went design bound part all.larger ks all.ran c.in_ok-places-2.ensures.ends) in
    subst IsTeam (sym c.in_ok-places-2.ensures.places_are) (team_same (map place_of all.larger) (map place_of ks) d.0 d.1 dealt.team)

pub finish-requires-2-clause-all : goal.finish-requires-2-clause-all
finish-requires-2-clause-all g c =
    let design = c.args.design.now in
    let bound = g.B.Values.value c.args.bounds.now design in
    let part = g.B.Bounds.part_value c.args.bounds.now design in
    let value = c.in_ok-word.seat.seen in
    let word = c.in_ok-word.word in
    let given = c.args.work.stretches.items in
    let first = c.deref.result.now in
    let js = c.in_ok-jobs.jobs.items in
    let all = c.in_ok-jobs-2.ensures in
    let ks = c.in_ok-jobs-2.jobs.items in
    let dealt = larger-dealt design bound value word given first js all.larger all.are c.in_ok-jobs.ensures.dealt in
    let gathered = c.in_ok-places-2.ensures in
    let parts = gathered.parts in
    let own = ap (λ (k : Knows). k.parts) c.in_ok-jobs.ensures.seat in
    let seated = all_parts design bound part value word given (map quota_of all.larger) all.larger ks (all_went design bound part all.larger ks all.ran gathered.ends) dealt.fresh dealt.firsts in
    let many = larger-many design bound given first js all.larger all.are c.in_ok-jobs.ensures.dealt.firsts in
    let same = ap length c.deref.ensures.value in
    let begun = each_two-length Begins c.args.work.quotas.now c.in_ok-first.first.items c.in_ok-first.ensures.each in
    let seats = c.in_ok-word.ensures.word.1 in
    omega (arith, parts, own, seated, many, same, begun, seats)

pub returns : goal.returns
returns g c =
    let design = c.args.design.now in
    let bound = g.B.Values.value c.args.bounds.now design in
    let part = g.B.Bounds.part_value c.args.bounds.now design in
    let value = c.args.value in
    let word = c.in_ok-word.word in
    let given = c.args.work.stretches.items in
    let quotas = c.args.work.quotas.now in
    let first = c.deref.result.now in
    let js = c.in_ok-jobs.jobs.items in
    let all = c.in_ok-jobs-2.ensures in
    let ks = c.in_ok-jobs-2.jobs.items in
    let gathered = c.in_ok-places-2.field-0 in
    let seen : c.in_ok-word.seat.seen ≡ value = ap (λ (k : Knows). k.seen) c.in_ok-word.ensures.seat in
    let begun = subst (λ (v : ℕ). Dealt design bound v word given first js) seen c.in_ok-jobs.ensures.dealt in
    let dealt = larger-dealt design bound value word given first js all.larger all.are begun in
    let none : c.deal.new.seat.offered ≡ MAX = ap (λ (k : Knows). k.offered) c.in_ok-jobs.ensures.seat ∙ ap (λ (k : Knows). k.offered) c.in_ok-word.ensures.seat in
    let small : value ≤ MAX = (let f = c.ranges.value in omega arith) in
    let S = g.T.Served.serves in
    let same : first ≡ c.in_ok-first.first.items = c.deref.ensures.value in
    let within : sum (map quota_of all.larger) ≤ sum quotas =
    (let a = all.within in let b = c.in_ok-first.ensures.within in omega (arith, a, b, quotas-sum design bound given first js begun.firsts, quotas-sum design bound given (map quota_of all.larger) all.larger dealt.firsts, ap sum same)) in
    round-within design bound part given quotas (map quota_of all.larger) value _ within
    (λ i some. larger-some design bound given first js all.larger all.are begun.firsts i (subst (λ qs. 1 ≤ slice_index_or qs i 0) (sym same) (begins-some quotas c.in_ok-first.first.items c.in_ok-first.ensures.each i some)))
    (rounded design bound part value word given (map quota_of all.larger) all.larger ks gathered.places.items gathered.pieces.items c.in_ok-left.field-0.left gathered.left.items gathered.best c.deal.new.seat c.gather.new.seat _
    (all_went design bound part all.larger ks all.ran c.in_ok-places-2.ensures.ends) dealt c.in_ok-places-2.ensures none small c.in_ok-left.ensures.finished (All-weaker S (IsStretch design bound) (λ t s. (c.requires.team t).0 s) c.in_ok-left.field-0.left c.in_ok-left.ensures.served)
    (c.in_ok-append.ensures.items ∙ ap (λ (ts : List Stretch). ts ++ gathered.left.items) c.into_vec-left.ensures) refl (c.finish-2.ensures.least ∙ ap (λ (n : ℕ). min n c.gather.new.seat.offered) c.in_ok-word.ensures.word.0) c.finish-2.ensures.seen c.plan_of.ensures)
