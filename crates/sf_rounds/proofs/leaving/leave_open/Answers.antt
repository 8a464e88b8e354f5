use Rattle.std.proofs.Common.{◌≡◌, [], ◌∷◌, ◌++◌, All, length, ap, sym, subst, ◌∙◌, rules, append-nil, append_assoc}
use Rattle.sf_rounds.proofs.Common.{All-head, All-tail, IsStretch, nil_from_length}
use Rattle.sf_rounds.proofs.LeftOpen.{opening-done, opening-more, opening-none}
use Rattle.sf_rounds.proofs.leaving.leave_open.Goals as goal

pub at-requires : goal.at-requires
at-requires g c =
    let P = IsStretch c.args.design.now (g.B.Values.value c.args.bounds.now c.args.design.now) in
    All-head P c.in-Some.stretch c.next.new.self.rest.items (subst (All P) c.in-Some.ensures.steps.0 c.loop-stretch.invariant.rest)

pub loop-stretch-init : goal.loop-stretch-init
loop-stretch-init g c =
    let design = c.args.design.now in
    let bound = g.B.Values.value c.args.bounds.now design in
    let same = c.into_iter-stretch-iterator.ensures.into_iter_gives.0 in
    record {
      opening = opening-none design bound (g.B.Bounds.part_value c.args.bounds.now design) c.args.value _ c.new.ensures.items;
      all = same;
      serves = c.room-room.ensures design;
      rest = subst (All (IsStretch design bound)) (sym same) c.requires;
    }

pub loop-stretch-preserved : goal.loop-stretch-preserved
loop-stretch-preserved g c =
    let design = c.args.design.now in
    let bound = g.B.Values.value c.args.bounds.now design in
    let P = IsStretch design bound in
    let i = c.loop-stretch.invariant in
    let s = c.in-Some.stretch in
    let steps = c.in-Some.ensures.steps.0 in
    let parts = c.into_parts-piece.ensures in
    record {
      opening = opening-more design bound (g.B.Bounds.part_value c.args.bounds.now design) c.args.value c.loop-stretch.opened.bound c.in_ok-opened.field-0 c.loop-stretch.yielded s c.loop-stretch.opened.pieces.items c.push.new.self.items c.into_parts-piece.result.0 c.in_ok-hand.hand c.leave_open.new.self
          i.opening c.in_ok-hand.ensures c.in_ok-opened.ensures.left parts.first parts.tags parts.kept c.in_ok-push.ensures.items;
      all = append_assoc c.loop-stretch.yielded (s ∷ []) c.next.new.self.rest.items ∙ (ap (λ zs. c.loop-stretch.yielded ++ zs) (sym steps) ∙ i.all);
      serves = c.in_ok-opened.ensures.serves;
      rest = All-tail P s c.next.new.self.rest.items (subst (All P) steps i.rest);
    }

pub returns : goal.returns
returns g c =
    let design = c.args.design.now in
    let i = c.loop-stretch.invariant in
    let zero : length c.loop-stretch.stretch-iterator.rest.items ≡ 0 = search rules in
    let none = nil_from_length c.loop-stretch.stretch-iterator.rest.items zero in
    let all = sym (append-nil c.loop-stretch.yielded) ∙ (ap (λ zs. c.loop-stretch.yielded ++ zs) (sym none) ∙ i.all) in
    opening-done design (g.B.Values.value c.args.bounds.now design) (g.B.Bounds.part_value c.args.bounds.now design) c.args.value c.loop-stretch.yielded c.args.stretches.items c.loop-stretch.opened all i.opening
