use Rattle.std.proofs.Common.{◌≡◌, ◌+◌, ◌∙◌, List, AllPairs, get_or, set, sym, subst, ap, arith, if◌then◌else◌}
use Rattle.sf_anneal.proofs.Common.{get_or_default_zero, Shape, size_in, IsCombination, IsSlimmer, before_in, kept_in, moved_curve}
use Rattle.sf_anneal.proofs.Renewing.{renewed-joint}
use Rattle.sf_anneal.proofs.parts.Moved.join.Goals as goal

pub returns-clause-renewed : goal.returns-clause-renewed
returns-clause-renewed c =
    let next = c.args.self.now in
    let tokens = c.args.tokens.now in
    let now = c.args.now.now in
    let k = c.args.place in
    let fresh = c.in_ok-fresh.fresh in
    let lower = c.requires.renewed.parts.lower k (omega arith) in
    let room = c.requires.room.next_before in
    let at_k : c.index.result.now ≡ before_in next.before.items k =
    c.index.ensures ∙ ap (λ v. get_or v k c.index.result.now) c.find.ensures.before ∙ get_or_default_zero next.before.items k c.index.result.now (omega (arith, c.requires.inside, room)) in
    let left : c.from-left.result ≡ before_in next.before.items k = c.from-left.ensures ∙ at_k in
    let beneath : c.index-before.result.now ≡ before_in next.before.items (before_in next.before.items k) =
    c.index-before.ensures ∙ ap (λ v. get_or v c.from-left.result c.index-before.result.now) c.find.ensures.before
    ∙ ap (λ i. get_or next.before.items i c.index-before.result.now) left ∙ get_or_default_zero next.before.items (before_in next.before.items k) c.index-before.result.now (omega (arith, lower, c.requires.inside, room)) in
    let chosen = λ (cs : List (List Shape)). if fresh then kept_in cs (k + 1) else kept_in now.curves.items (k + 1) in
    renewed-joint c.args.design.now c.args.blocks.now now c.args.known.now tokens _ next c.note.new.self k c.args.direction fresh c.requires.normal c.requires.inside c.requires.renewed
    (omega (arith, c.requires.inside, room)) (omega (arith, c.requires.inside, c.requires.room.fresh))
    (c.note.ensures.before ∙ ap (λ v. set v (k + 1) c.index-before.result.now) c.find.ensures.before ∙ ap (set next.before.items (k + 1)) beneath)
    (c.note.ensures.fresh ∙ ap (λ v. set v (k + 1) fresh) c.find.ensures.fresh)
    (λ j h. ap (λ v. kept_in v j) c.note.ensures.curves ∙ c.in_ok-fresh.ensures.curves j h)
    c.requires.token
    (subst (λ cs. IsCombination (size_in c.args.direction) c.args.design.now.outline (moved_curve c.args.blocks.now now next tokens (before_in next.before.items k)) (moved_curve c.args.blocks.now now next tokens k) (chosen cs)) (sym c.note.ensures.curves) c.in_ok-fresh.ensures.sizes)
    (subst (λ cs. AllPairs IsSlimmer (chosen cs)) (sym c.note.ensures.curves) c.in_ok-fresh.ensures.falls)
    (λ e. (c.in_ok-fresh.ensures.inside e, c.in_ok-fresh.ensures.stays e))
