use Rattle.std.proofs.Common.{inl, inr, arith, ap, ◌∙◌, subst}
use Rattle.sf_subsets.proofs.Common.{AddsSmall, take_all}
use Rattle.sf_subsets.proofs.Added.{adds-none, adds-at}
use Rattle.sf_subsets.proofs.gathering.push_small.Goals as goal
use Rattle.sf_subsets.proofs.gathering.push_small.Goals.{then-area-limit+in_ok-push, else-area-limit}

pub loop-size-init : goal.loop-size-init
loop-size-init c = adds-none c.args.limit c.args.found.now.items

pub loop-size-preserved : goal.loop-size-preserved
loop-size-preserved c =
    adds-at c.args.limit c.args.found.now.items c.args.sizes.now c.loop-size.found.items _ c.loop-size.size-index record { w = 0; h = 0 } (omega arith)
    (elim c.if-area-limit.branch [
      | then-area-limit+in_ok-push w ↦ inl (omega (arith, c.area.ensures, w.if-area-limit.true), ap (λ v. v.items) w.found-is ∙ w.in_ok-push.ensures.items)
      | else-area-limit w ↦ inr (omega (arith, c.area.ensures, w.if-area-limit.false), ap (λ v. v.items) w.found-is)
    ])
    c.loop-size.invariant

pub returns : goal.returns
returns c =
    subst (λ v. AddsSmall c.args.limit c.args.found.now.items v c.loop-size.found.items) (take_all c.loop-size.size-index c.args.sizes.now (omega arith))
    c.loop-size.invariant
