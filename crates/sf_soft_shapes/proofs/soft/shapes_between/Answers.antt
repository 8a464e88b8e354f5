use Rattle.std.proofs.Common.{◌≡◌, ℕ, ◌+◌, ◌-◌, ◌*◌, ◌/◌, nat_le, if◌then◌else◌, arith, ap, ◌∙◌}
use Rattle.sf_soft_shapes.proofs.Common.{nat_tests, shape, height_at, width_count}
use Rattle.sf_soft_shapes.proofs.Spread.{grown}
use Rattle.sf_soft_shapes.proofs.soft.shapes_between.Goals as goal
use Rattle.sf_soft_shapes.proofs.soft.shapes_between.Goals.{then-count-k, else-count-k}

pub loop-j-preserved : goal.loop-j-preserved
loop-j-preserved c =
    let width = λ (j : ℕ). if nat_le (width_count c.args.lo c.args.hi) c.from-k.result then c.args.lo + j else c.args.lo + j * (c.args.hi - c.args.lo) / (c.from-k.result - 1) in
    let at : c.if-count-k.w ≡ (if nat_le (width_count c.args.lo c.args.hi) c.from-k.result then c.args.lo + c.loop-j.j else c.args.lo + c.loop-j.j * (c.args.hi - c.args.lo) / (c.from-k.result - 1)) =
    elim c.if-count-k.branch [ then-count-k w ↦ grind (arith, nat_tests) | else-count-k w ↦ grind (arith, nat_tests) ] in
    grown (λ w. shape w (height_at c.args.area w)) width c.loop-j.j c.loop-j.shapes.items c.push.new.self.items _ c.in_ok-push.ensures.items c.loop-j.invariant (ap (λ h. shape c.if-count-k.w h) c.div_ceil.ensures ∙ ap (λ w. shape w (height_at c.args.area w)) at)
