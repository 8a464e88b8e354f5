use Rattle.std.proofs.Common.{◌≡◌, ◌-◌, [], arith, subst, ◌∙◌}
use Rattle.sf_subsets.proofs.Common.{IsJoined, curve_at, get_or_default}
use Rattle.std.proofs.lemmas.Nat.{and_le_l}
use Rattle.sf_subsets.proofs.Bits.{common-part}
use Rattle.sf_subsets.proofs.Splits.{none-joined, passed-begin, passed-next}
use Rattle.sf_subsets.proofs.splitting.split_of.Goals as goal

pub loop-part-init : goal.loop-part-init
loop-part-init c =
    let set = c.args.set in
    (common-part (set - 1) set, omega (arith, c.requires.some, and_le_l (set - 1) set), passed-begin c.args.curves.now set c.args.size c.requires.some)

pub loop-part-preserved : goal.loop-part-preserved
loop-part-preserved c =
    let set = c.args.set in
    let part = c.loop-part.part in
    let curves = c.args.curves.now in
    let first : c.points.result.now ≡ curve_at curves (set - part) =
    c.points.ensures.is ∙ c.index-curves-set.is ∙ get_or_default curves (set - part) c.index-curves-set.result [] (omega (arith, c.loop-part-test.true, c.requires.inside)) in
    let second : c.points-in-loop-part.result.now ≡ curve_at curves part =
    c.points-in-loop-part.ensures.is ∙ c.index-curves-part.is ∙ get_or_default curves part c.index-curves-part.result [] (omega (arith, c.loop-part.invariant.1, c.requires.inside)) in
    let none : ¬ IsJoined (curve_at curves (set - part)) (curve_at curves part) c.args.size =
    subst (λ v. ¬ IsJoined v (curve_at curves part) c.args.size) first
    (subst (λ v. ¬ IsJoined c.points.result.now v c.args.size) second
    (none-joined c.points.result.now c.points-in-loop-part.result.now c.args.size c.in_default.ensures)) in (
      common-part (part - 1) set,
      omega (arith, c.loop-part-test.true, c.loop-part.invariant.1, and_le_l (part - 1) set),
      passed-next curves set part c.args.size c.loop-part.invariant.0 none c.loop-part.invariant.2,
    )
