use Rattle.std.proofs.Common.{◌+◌, ap, ◌∙◌, arith}
use Rattle.sf_model.specs.declared.parts.Pin.TheVariants.{Block}
use Rattle.sf_parts.proofs.Ascending.{set_push, set_skip}
use Rattle.sf_parts.proofs.nets.set_of.Goals as goal
use Rattle.sf_parts.proofs.nets.set_of.Goals.{then-order-next+in_ok-push, else-order-next}

pub loop-pin-preserved : goal.loop-pin-preserved
loop-pin-preserved c = elim c.if-order-next.branch [
  | then-order-next+in_ok-push w ↦ set_push c.args.pins.now c.loop-pin.pin-index c.loop-pin.next c.loop-pin.set.items c.if-order-next.set.items c.if-order-next.next (Block 0) c.loop-pin.invariant (omega arith) (omega (arith, c.order.ensures.value)) (rw w.set-is w.in_ok-push.ensures.items) (w.next-is ∙ ap (λ n. n + 1) w.order-next.ensures.value)
  | else-order-next w ↦ rw (w.set-is, w.next-is) (set_skip c.args.pins.now c.loop-pin.pin-index c.loop-pin.next c.loop-pin.set.items (Block 0) c.loop-pin.invariant c.requires (omega arith) (omega (arith, c.order.ensures.value)))
]
