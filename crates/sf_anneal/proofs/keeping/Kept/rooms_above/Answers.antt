use Rattle.std.proofs.Common.{◌-◌, ◌∙◌, ◌≤◌, subst, sym, arith, Any, refl}
use Rattle.sf_anneal.proofs.Common.{get_or_default_zero, IsLowest}
use Rattle.sf_curves.specs.declared.direction.Direction.TheVariants as way
use Rattle.sf_anneal.proofs.Laying.{are-joined}
use Rattle.sf_anneal.proofs.keeping.Kept.rooms_above.Goals as goal

pub lowest_point-first-requires : goal.lowest_point-first-requires
lowest_point-first-requires c =
    let left = c.from-left.ensures ∙ c.index.ensures ∙ get_or_default_zero c.args.self.now.moved.before.items (c.args.part - 1) c.index.result.now (omega (arith, c.requires.room.next_before, c.requires.inside)) in
    let r = are-joined c.requires.parts.0 _ _ _ _ c.requires.parts.1 way.Above c.args.part c.from-left.result (c.args.part - 1) c.args.size (omega (arith, c.requires.some)) (left) (omega (arith, c.requires.some, c.requires.inside)) c.requires.token c.requires.on_curve in
    subst (Any (λ q. q.w ≤ c.args.size.w)) (sym c.curve.ensures) r.first

pub lowest_point-second-requires : goal.lowest_point-second-requires
lowest_point-second-requires c =
    let r = are-joined c.requires.parts.0 _ _ _ _ c.requires.parts.1 way.Above c.args.part _ (c.args.part - 1) c.args.size (omega (arith, c.requires.some)) (refl) (omega (arith, c.requires.some, c.requires.inside)) c.requires.token c.requires.on_curve in
    subst (Any (λ q. q.w ≤ c.args.size.w)) (sym c.curve-2.ensures) r.second

pub returns-clause-low : goal.returns-clause-low
returns-clause-low c =
    let left = c.from-left.ensures ∙ c.index.ensures ∙ get_or_default_zero c.args.self.now.moved.before.items (c.args.part - 1) c.index.result.now (omega (arith, c.requires.room.next_before, c.requires.inside)) in
    let r = are-joined c.requires.parts.0 _ _ _ _ c.requires.parts.1 way.Above c.args.part c.from-left.result (c.args.part - 1) c.args.size (omega (arith, c.requires.some)) (left) (omega (arith, c.requires.some, c.requires.inside)) c.requires.token c.requires.on_curve in
    let small = r.small _ _ (subst (λ v. IsLowest c.args.size.w v c.lowest_point-first.result) c.curve.ensures c.lowest_point-first.ensures.lowest) (subst (λ v. IsLowest c.args.size.w v c.lowest_point-second.result) c.curve-2.ensures c.lowest_point-second.ensures.lowest) in
    omega (arith, small.1)
