use Rattle.std.proofs.Common.{◌≡◌, ◌<◌, [], ◌∷◌, ◌++◌, length, ap, sym, subst, arith, rules, refl, ◌∙◌, append-nil, append_assoc}
use Rattle.sf_rounds.proofs.Common.{nil_from_length, MAX, Knows, IsSeated, reverse, slice_index}
use Rattle.sf_rounds.proofs.Dealing.{next-stretch, seating-more, seating-done}
use Rattle.sf_rounds.proofs.deal.seated.Goals as goal

pub loop-place-preserved : goal.loop-place-preserved
loop-place-preserved g c =
    let i = c.loop-place.invariant in
    let value = c.args.seat.now.seen in
    let word = c.args.word.now in
    let ts = reverse c.args.stretches.now.items in
    let quotas = c.args.quotas.now in
    let js = c.loop-place.jobs.items in
    let next = next-stretch c.pop.result c.loop-place.stretches.items c.pop.new.self.items ts (length js) _ _ c.pop.ensures.items (omega arith) (omega arith) c.pop.ensures.cases i.0.left_are in
    let rest = ap length c.in-Some.ensures.steps.0 in
    let below : length js < length quotas = (let k = i.3 in omega (arith, k, rest)) in
    let len = c.in_ok-push.ensures.len in (
      seating-more value word ts quotas c.loop-place.yielded c.in-Some.place js c.push.new.self.items _ c.loop-place.stretches.items c.pop.new.self.items c.args.seat.now c.loop-place.seat c.split.new.seat 0
          c.in_ok-push.ensures.items i.0
          (record {
            place_is = refl;
            log = c.new.ensures.items;
            kept = c.new-in-loop-place.ensures.items;
            best = refl;
            seat = c.split.ensures.other ∙ ap (λ (k : Knows). record { word = word.id; seen = k.seen; offered = MAX; parts = 1 }) i.0.seat;
            first = next.0;
            quota_is = ap (slice_index quotas) i.2;
          })
          below next.1 c.split.ensures.one,
      append_assoc c.loop-place.yielded (c.in-Some.place ∷ []) c.next.new.self.rest.items ∙ (ap (λ zs. c.loop-place.yielded ++ zs) (sym c.in-Some.ensures.steps.0) ∙ i.1),
      (let k = i.2 in omega (arith, k, len)),
      (let k = i.3 in omega (arith, k, rest, len)),
    )

pub returns-clause-seated : goal.returns-clause-seated
returns-clause-seated g c =
    let i = c.loop-place.invariant in
    let all : length c.loop-place.jobs.items ≡ length c.args.quotas.now = search rules in
    let places : c.loop-place.yielded ≡ c.args.places.items = (let zero : length c.loop-place.place-iterator.rest.items ≡ 0 = search rules in let none = nil_from_length c.loop-place.place-iterator.rest.items zero in sym (append-nil c.loop-place.yielded) ∙ (ap (λ zs. c.loop-place.yielded ++ zs) (sym none) ∙ i.1)) in
    subst (λ ps. IsSeated c.args.seat.now.seen c.args.word.now (reverse c.args.stretches.now.items) c.args.quotas.now ps c.loop-place.jobs.items) places (seating-done c.args.seat.now.seen c.args.word.now (reverse c.args.stretches.now.items) c.args.quotas.now c.loop-place.yielded c.loop-place.jobs.items c.loop-place.stretches.items c.args.seat.now c.loop-place.seat all i.0)
