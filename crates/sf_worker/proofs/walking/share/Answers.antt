use Rattle.std.proofs.Common.{◌≡◌, ◌∷◌, [], ap, sym, subst, ◌∙◌, refl, arith, MatchOption, sum_by}
use Rattle.sf_worker.proofs.Common.{HandView, IsHand, IsParted, left_of, marks_of}
use Rattle.sf_worker.proofs.Puts.{puts-none}
use Rattle.sf_worker.proofs.Sharing.{shared-none, shared, taken-one, taken-none, cut-weighs}
use Rattle.sf_worker.proofs.walking.share.Goals as goal

pub returns-then-not-wanted : goal.returns-then-not-wanted
returns-then-not-wanted g c = shared-none c.args.design.now (g.V.Values.value c.args.values.now c.args.design.now) c.args.state.now c.args.hand.now c.requires.hand c.requires.more

pub returns-in-Some : goal.returns-in-Some
returns-in-Some g c =
    let x = c.in-Some.stretch in
    shared c.args.design.now (g.V.Values.value c.args.values.now c.args.design.now) g.T.Served.serves c.requires.team c.args.state.now _ c.args.hand.now c.args.hand.now (x ∷ []) (x ∷ []) c.reserve.new.self.items c.take.new.self
    c.requires.hand refl refl c.requires.more refl c.in_ok-reserve.ensures.items (taken-one c.args.state.now.place.owner c.take.new.self x c.in-Some.ensures.taken.0) c.put.ensures.put refl (λ w. refl)

pub returns-in-Some-2 : goal.returns-in-Some-2
returns-in-Some-2 g c =
    let design = c.args.design.now in
    let bound = g.V.Values.value c.args.values.now design in
    let old = c.args.hand.now in
    let new = c.part_off.new.self in
    let x = c.in-Some-2.stretch in
    let p : IsParted design bound old new x = subst (λ o. MatchOption o (new ≡ old) (λ given. IsParted design bound old new given)) c.in-Some-2.is c.in_ok-stretch.ensures in
    shared design bound g.T.Served.serves c.requires.team c.args.state.now _ old new [] (x ∷ []) c.reserve.new.self.items c.take.new.self
    p.hand_is p.marks_are p.kept p.more refl c.in_ok-reserve.ensures.items (taken-none c.args.state.now.place.owner c.take.new.self c.in_default.ensures.taken) c.put-in-Some-2.ensures.put refl (cut-weighs design bound old new x p)

pub returns-in_default-2 : goal.returns-in_default-2
returns-in_default-2 g c =
    let design = c.args.design.now in
    let bound = g.V.Values.value c.args.values.now design in
    let old = c.args.hand.now in
    let new = c.part_off.new.self in
    let same : new ≡ old = subst (λ o. MatchOption o (new ≡ old) (λ given. IsParted design bound old new given)) c.in_default-2.is c.in_ok-stretch.ensures in
    shared design bound g.T.Served.serves c.requires.team c.args.state.now _ old new [] [] c.reserve.new.self.items c.take.new.self
    (subst (IsHand design bound) (sym same) c.requires.hand) (ap (marks_of design) same) (ap (λ (h : HandView). h.kept) same) (ap (λ (h : HandView). h.more) same ∙ c.requires.more)
    refl c.in_ok-reserve.ensures.items (taken-none c.args.state.now.place.owner c.take.new.self c.in_default.ensures.taken) (puts-none g.T.Served.serves c.take.new.self c.reserve.new.self.items) refl
    (λ w. (let e = ap (λ (h : HandView). sum_by w (left_of design h)) same in omega (arith, e)))
