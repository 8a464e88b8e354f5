use Rattle.std.proofs.Common.{◌≡◌, [], ◌∷◌, ◌++◌, All, length, ap, sym, subst, ◌∙◌, rules, append-nil, append_assoc}
use Rattle.sf_rounds.proofs.Common.{All-head, All-permutation, All-tail, IsPermutation, IsStretch, nil_from_length}
use Rattle.sf_rounds.proofs.Parted.{parting-done, parting-more, parting-none}
use Rattle.sf_rounds.proofs.parting.parts_of.Goals as goal

pub add_parts-requires : goal.add_parts-requires
add_parts-requires g c =
    let P = IsStretch c.args.design.now (g.V.Values.value c.args.values.now c.args.design.now) in
    All-head P c.in-Some.stretch c.next.new.self.rest.items (subst (All P) c.in-Some.ensures.steps.0 c.loop-stretch.invariant.rest)

pub loop-stretch-init : goal.loop-stretch-init
loop-stretch-init g c =
    let design = c.args.design.now in
    let bound = g.V.Values.value c.args.values.now design in
    let given = c.args.stretches.items in
    let same = c.into_iter-stretch-iterator.ensures.into_iter_gives.0 in
    let sorted = c.in_ok-sort_by.ensures.permutation in
    record {
      parting = parting-none design bound _ c.new-parts.ensures.items;
      all = subst (IsPermutation given) (sym same) sorted;
      rest = subst (All (IsStretch design bound)) (sym same) (All-permutation (IsStretch design bound) given c.sort_by.new.self.items sorted c.requires);
    }

pub loop-stretch-preserved : goal.loop-stretch-preserved
loop-stretch-preserved g c =
    let design = c.args.design.now in
    let bound = g.V.Values.value c.args.values.now design in
    let P = IsStretch design bound in
    let i = c.loop-stretch.invariant in
    let done = c.loop-stretch.yielded in
    let s = c.in-Some.stretch in
    let rest = c.next.new.self.rest.items in
    let steps = c.in-Some.ensures.steps.0 in
    record {
      parting = parting-more design bound done c.loop-stretch.parts.items c.add_parts.new.parts.items s i.parting c.in_ok-wanted.ensures;
      all = subst (IsPermutation c.args.stretches.items) (ap (λ zs. done ++ zs) steps ∙ sym (append_assoc done (s ∷ []) rest)) i.all;
      rest = All-tail P s rest (subst (All P) steps i.rest);
    }

pub returns : goal.returns
returns g c =
    let design = c.args.design.now in
    let bound = g.V.Values.value c.args.values.now design in
    let i = c.loop-stretch.invariant in
    let given = c.args.stretches.items in
    let done = c.loop-stretch.yielded in
    let zero : length c.loop-stretch.stretch-iterator.rest.items ≡ 0 = search rules in
    let none = nil_from_length c.loop-stretch.stretch-iterator.rest.items zero in
    parting-done design bound given done c.loop-stretch.parts.items (subst (IsPermutation given) (ap (λ zs. done ++ zs) none ∙ append-nil done) i.all) i.parting
