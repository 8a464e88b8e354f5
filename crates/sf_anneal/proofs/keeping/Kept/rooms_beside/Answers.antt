use Rattle.std.proofs.Common.{◌-◌, ◌∙◌, ◌≤◌, subst, sym, arith, Any, refl}
use Rattle.sf_anneal.proofs.Common.{get_or_default_zero, IsNarrowest}
use Rattle.sf_curves.specs.declared.direction.Direction.TheVariants as way
use Rattle.sf_anneal.proofs.Laying.{are-joined}
use Rattle.sf_anneal.proofs.keeping.Kept.rooms_beside.Goals as goal

pub narrowest_point-first-requires : goal.narrowest_point-first-requires
narrowest_point-first-requires c =
    let left = c.from-left.ensures ∙ c.index.ensures ∙ get_or_default_zero c.args.self.now.moved.before.items (c.args.part - 1) c.index.result.now (omega (arith, c.requires.room.next_before, c.requires.inside)) in
    let r = are-joined c.requires.parts.0 _ _ _ _ c.requires.parts.1 way.Beside c.args.part c.from-left.result (c.args.part - 1) c.args.size (omega (arith, c.requires.some)) (left) (omega (arith, c.requires.some, c.requires.inside)) c.requires.token c.requires.on_curve in
    subst (Any (λ q. q.h ≤ c.args.size.h)) (sym c.curve.ensures) r.first

pub narrowest_point-second-requires : goal.narrowest_point-second-requires
narrowest_point-second-requires c =
    let r = are-joined c.requires.parts.0 _ _ _ _ c.requires.parts.1 way.Beside c.args.part _ (c.args.part - 1) c.args.size (omega (arith, c.requires.some)) (refl) (omega (arith, c.requires.some, c.requires.inside)) c.requires.token c.requires.on_curve in
    subst (Any (λ q. q.h ≤ c.args.size.h)) (sym c.curve-2.ensures) r.second

pub returns-clause-narrow : goal.returns-clause-narrow
returns-clause-narrow c =
    let left = c.from-left.ensures ∙ c.index.ensures ∙ get_or_default_zero c.args.self.now.moved.before.items (c.args.part - 1) c.index.result.now (omega (arith, c.requires.room.next_before, c.requires.inside)) in
    let r = are-joined c.requires.parts.0 _ _ _ _ c.requires.parts.1 way.Beside c.args.part c.from-left.result (c.args.part - 1) c.args.size (omega (arith, c.requires.some)) (left) (omega (arith, c.requires.some, c.requires.inside)) c.requires.token c.requires.on_curve in
    let small = r.small _ _ (subst (λ v. IsNarrowest c.args.size.h v c.narrowest_point-first.result) c.curve.ensures c.narrowest_point-first.ensures.narrowest) (subst (λ v. IsNarrowest c.args.size.h v c.narrowest_point-second.result) c.curve-2.ensures c.narrowest_point-second.ensures.narrowest) in
    omega (arith, small.0)
