use Rattle.std.proofs.Common.{◌≤◌, All, length, ap, sym, subst, arith}
use Rattle.sf_frontier.proofs.Common.{All-nil, OwnerView, HasSlots}
use Rattle.sf_frontier.proofs.Teams.{IsGrowing, growing-start, growing-more, growing-closed, new-pair, slots-more}
use Rattle.sf_frontier.proofs.ring.ring.Goals as goal

pub loop-init : goal.loop-init
loop-init g c = (
  subst (λ ps. IsGrowing ps c.args.owner c.args.first.deque) (sym c.new-places.ensures.items) (growing-start c.args.owner c.args.first.deque c.requires.deque.0 c.requires.deque.1 c.requires.new.0),
  (let n = ap length c.new-places.ensures.items in omega (arith, n)),
  subst (All (HasSlots 64)) (sym c.new-places.ensures.items) (All-nil (HasSlots 64)),
  c.requires.slots,
)

pub loop-preserved : goal.loop-preserved
loop-preserved g c =
    let a = c.in_ok-alone.ensures in
    let n = c.in_ok-next.ensures in
    let pair = new-pair c.in_ok-alone.field-0 c.in_ok-next.next c.in_ok-next.thief (a.1, a.2, a.3, a.4, a.5, a.6) n.owner n.thief in
    let i = c.loop.invariant in (
      subst (λ o. IsGrowing c.push.new.self.items o c.args.first.deque) (sym c.replace-owner.ensures.after)
          (growing-more c.loop.places.items c.push.new.self.items _ c.loop.owner c.in_ok-next.next c.in_ok-next.thief c.args.first.deque c.in_ok-push.ensures.items i.0 c.replace-owner.ensures.value c.in_ok-thieves.ensures.items pair),
      (let l = c.in_ok-push.ensures.len in let k = i.1 in omega (arith, l, k)),
      slots-more 64 c.loop.places.items c.push.new.self.items _ c.loop.owner c.in_ok-push.ensures.items i.2 c.replace-owner.ensures.value i.3,
      subst (λ (o : OwnerView). 64 ≤ o.deque.first_slots) (sym c.replace-owner.ensures.after) (let k = ap (λ (o : OwnerView). o.deque.first_slots) n.owner in let b = a.7 in omega (arith, k, b)),
    )

pub returns-clause-team : goal.returns-clause-team
returns-clause-team g c =
    let i = c.loop.invariant in
    let done = growing-closed c.loop.places.items c.push-2.new.self.items _ c.loop.owner c.args.first c.in_ok-push-2.ensures.items i.0 (λ _. c.loop.owner) c.in_ok-thieves-2.ensures.items c.requires.new.1 in
    (done.0, (let l = c.in_ok-push-2.ensures.len in let k = i.1 in omega (arith, l, k)))

pub returns-clause-new : goal.returns-clause-new
returns-clause-new g c =
    (growing-closed c.loop.places.items c.push-2.new.self.items _ c.loop.owner c.args.first c.in_ok-push-2.ensures.items c.loop.invariant.0 (λ _. c.loop.owner) c.in_ok-thieves-2.ensures.items c.requires.new.1).1

pub returns-clause-slots : goal.returns-clause-slots
returns-clause-slots g c =
    let i = c.loop.invariant in
    slots-more 64 c.loop.places.items c.push-2.new.self.items _ c.loop.owner c.in_ok-push-2.ensures.items i.2 (λ _. c.loop.owner) i.3
