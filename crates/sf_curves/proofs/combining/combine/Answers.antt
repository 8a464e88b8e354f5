use Rattle.std.proofs.Common.{subst, sym, inl, inr, arith}
use Rattle.sf_curves.proofs.Common.{AllPairs, IsSlimmer, IsCombination, size_in}
use Rattle.sf_curves.proofs.Joining.{joining-begins, first-on, second-on, both-on, joining-ends, joining-falls}
use Rattle.sf_curves.proofs.combining.combine.Goals as goal
use Rattle.sf_curves.proofs.combining.combine.Goals.{then-loop-i-test+else-j-second, else-loop-i-test}

pub loop-i-init : goal.loop-i-init
loop-i-init c = joining-begins c.args.direction c.args.first.now c.args.second.now c.args.outline _ c.clear.ensures.items c.requires.first_falls c.requires.second_falls

pub loop-i-preserved-then-here-there : goal.loop-i-preserved-then-here-there
loop-i-preserved-then-here-there c =
    first-on c.args.direction c.args.first.now c.args.second.now c.args.outline _ _ c.loop-i.i c.loop-i.j _ _ c.point_at-one.ensures c.point_at-other.ensures (omega arith) (omega arith) c.loop-i.invariant c.in_ok-push_size.ensures
    (omega (arith, c.shared_side-here.ensures, c.shared_side-there.ensures))

pub loop-i-preserved-then-here-there-2 : goal.loop-i-preserved-then-here-there-2
loop-i-preserved-then-here-there-2 c =
    second-on c.args.direction c.args.first.now c.args.second.now c.args.outline _ _ c.loop-i.i c.loop-i.j _ _ c.point_at-one.ensures c.point_at-other.ensures (omega arith) (omega arith) c.loop-i.invariant c.in_ok-push_size.ensures
    (omega (arith, c.shared_side-here.ensures, c.shared_side-there.ensures))

pub loop-i-preserved : goal.loop-i-preserved
loop-i-preserved c =
    both-on c.args.direction c.args.first.now c.args.second.now c.args.outline _ _ c.loop-i.i c.loop-i.j _ _ c.point_at-one.ensures c.point_at-other.ensures (omega arith) (omega arith) c.loop-i.invariant c.in_ok-push_size.ensures
    (omega (arith, c.shared_side-here.ensures, c.shared_side-there.ensures))

pub returns-clause-falls : goal.returns-clause-falls
returns-clause-falls c =
    subst (AllPairs IsSlimmer) (sym c.order.ensures)
    (joining-falls c.args.direction c.args.first.now c.args.second.now c.args.outline _ c.loop-i.i c.loop-i.j c.loop-i.invariant)

pub returns-clause-combines : goal.returns-clause-combines
returns-clause-combines c =
    subst (IsCombination (size_in c.args.direction) c.args.outline c.args.first.now c.args.second.now) (sym c.order.ensures)
    (joining-ends c.args.direction c.args.first.now c.args.second.now c.args.outline _ c.loop-i.i c.loop-i.j c.loop-i.invariant
    (elim c.loop-i-test.branch [
      | then-loop-i-test+else-j-second w ↦ inr (omega arith)
      | else-loop-i-test w ↦ inl (omega arith)
    ]))
