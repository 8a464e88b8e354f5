use Rattle.std.proofs.Common.{◌≡◌, ◌∙◌, List, [], ◌++◌, All, length, ap, sym, subst, arith, rules}
use Rattle.sf_frontier.proofs.Common.{All-append, All-nil, Stretch, ThiefView, with_stolen, IsFinished}
use Rattle.sf_frontier.proofs.Teams.{IsSettling, settling-start, settling-more, settling-thief, settling-some, settling-done, lone-part, lone-done}
use Rattle.sf_frontier.proofs.settle.finish.Goals as goal

pub drain-requires : goal.drain-requires
drain-requires g c =
    let none : length c.in-Some.last.thieves.items ≡ 0 = search rules in
    lone-part c.args.places.items c.pop.new.self.items c.in-Some.last c.in-Some.ensures.items none c.requires

pub returns-in_default-pop-clause-finished : goal.returns-in_default-pop-clause-finished
returns-in_default-pop-clause-finished g c =
    let none : length c.in-Some.last.thieves.items ≡ 0 = search rules in
    let d = c.in_ok-drain.ensures.left in
    subst (IsFinished c.args.places.items) (sym c.from_vec.ensures)
    (lone-done c.args.places.items c.pop.new.self.items c.in-Some.last d.0 c.drain.new.left.items c.in-Some.ensures.items none c.requires d.2 (d.1 ∙ ap (λ (zs : List Stretch). zs ++ d.0) c.new-left.ensures.items))

pub loop-place-init : goal.loop-place-init
loop-place-init g c =
    let s = settling-start c.args.places.items c.pop.new.self.items c.in-Some.last c.pop-2.new.self.items c.in-Some-pop.first c.in-Some.ensures.items c.in-Some-pop.ensures.items c.requires in
    let S = g.T.Served.serves in (
      subst (IsSettling c.args.places.items c.pop.new.self.items c.in-Some.last.owner _) (sym c.new-left.ensures.items)
          (subst (λ (t : ThiefView). IsSettling c.args.places.items c.pop.new.self.items c.in-Some.last.owner t []) (sym c.first.view_is) s.0),
      subst (All S) (sym c.new-left.ensures.items) (All-nil S),
    )

pub unreachable-requires-in_default-pop-3 : goal.unreachable-requires-in_default-pop-3
unreachable-requires-in_default-pop-3 g c =
    let some = settling-some c.args.places.items c.pop-in-loop-place.new.self.items c.loop-place.places.items c.in-Some-pop-2.place c.loop-place.owner _ c.loop-place.left.items c.in-Some-pop-2.ensures.items c.loop-place.invariant.0 in
    let none : length c.in-Some-pop-2.place.thieves.items ≡ 0 = search rules in
    omega (arith, some, none)

pub join-requires : goal.join-requires
join-requires g c =
    settling-thief c.args.places.items c.pop-in-loop-place.new.self.items c.loop-place.places.items c.in-Some-pop-2.place c.loop-place.owner _ c.in-Some-pop-3.thief c.pop-in-Some-pop-2.new.self.items c.loop-place.left.items c.in-Some-pop-2.ensures.items c.loop-place.invariant.0 c.in-Some-pop-3.ensures.items

pub loop-place-preserved : goal.loop-place-preserved
loop-place-preserved g c =
    let S = g.T.Served.serves in
    let d = c.in_ok-drain-2.ensures.left in (
      settling-more c.args.places.items c.pop-in-loop-place.new.self.items c.loop-place.places.items c.in-Some-pop-2.place c.loop-place.owner _ c.in-Some-pop-3.thief c.pop-in-Some-pop-2.new.self.items
          c.join.result c.loop-place.left.items d.0 c.drain-in-Some-pop-2.new.left.items c.in-Some-pop-2.ensures.items c.loop-place.invariant.0 c.in-Some-pop-3.ensures.items c.join.ensures d.2 d.1,
      subst (All S) (sym d.1) (All-append S c.loop-place.left.items d.0 c.loop-place.invariant.1 d.3),
    )

pub returns-clause-finished : goal.returns-clause-finished
returns-clause-finished g c =
    let d = c.in_ok-drain-3.ensures.left in
    let none : c.loop-place.places.items ≡ [] = search rules in
    subst (IsFinished c.args.places.items) (sym c.from_vec-2.ensures)
    (settling-done c.args.places.items c.loop-place.places.items c.loop-place.owner _ c.join-2.result c.loop-place.left.items d.0 c.drain-2.new.left.items none c.loop-place.invariant.0
    (c.join-2.ensures ∙ ap (λ (t : ThiefView). with_stolen c.loop-place.owner t.taken) (sym c.first.view_is)) d.2 d.1)

pub returns-clause-served : goal.returns-clause-served
returns-clause-served g c =
    let S = g.T.Served.serves in
    let d = c.in_ok-drain-3.ensures.left in
    subst (All S) (sym (c.from_vec-2.ensures ∙ d.1)) (All-append S c.loop-place.left.items d.0 c.loop-place.invariant.1 d.3)
