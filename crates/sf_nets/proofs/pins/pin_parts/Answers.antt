use Rattle.std.proofs.Common.{◌≤◌, arith, ap, sym, subst, ◌∙◌, true}
use Rattle.sf_nets.proofs.Common.{IfSome, IsFitReach, met, anywhere, pin_range, pin_home, narrowed}
use Rattle.sf_nets.proofs.Pairing.{pairs_before}
use Rattle.sf_nets.proofs.PinLoops.{fold_whole, near_ranges, near_homes}
use Rattle.sf_nets.proofs.pins.pin_parts.Goals as goal

pub pair_pin-pair-requires-clause-most : goal.pair_pin-pair-requires-clause-most
pair_pin-pair-requires-clause-most c =
    subst (λ q. IfSome q.most (λ m. m ≤ 1048576)) (sym c.loop-pin.invariant.1) (pairs_before c.args.design.now c.requires.ready.0 c.args.table.now c.requires.ready.1 c.args.pins.now c.loop-pin.pin-index c.requires.inside).most

pub returns-clause-near_range : goal.returns-clause-near_range
returns-clause-near_range c =
    let whole = fold_whole (λ r p. met r (pin_range c.args.design.now c.args.table.now p)) anywhere c.args.pins.now c.loop-pin.pin-index (omega arith) in
    subst IsFitReach (sym (c.loop-pin.invariant.0 ∙ whole)) (near_ranges c.args.design.now c.requires.ready.0 c.args.table.now c.requires.ready.1 c.args.pins.now c.requires.inside)

pub returns-clause-small_pair : goal.returns-clause-small_pair
returns-clause-small_pair c =
    omega (arith, ap (λ q. q.sum) c.loop-pin.invariant.1, (pairs_before c.args.design.now c.requires.ready.0 c.args.table.now c.requires.ready.1 c.args.pins.now c.loop-pin.pin-index c.requires.inside).sum)

pub returns-clause-near_hull : goal.returns-clause-near_hull
returns-clause-near_hull c =
    let whole = fold_whole (λ r p. narrowed r (pin_home c.args.design.now c.args.table.now true p)) anywhere c.args.pins.now c.loop-pin.pin-index (omega arith) in
    subst IsFitReach (sym (c.loop-pin.invariant.2 ∙ whole)) (near_homes c.args.design.now c.requires.ready.0 c.args.table.now c.requires.ready.1 c.args.pins.now c.requires.inside)
