use Rattle.std.proofs.Common.{◌≡◌, ◌+◌, ◌<◌, ◌≤◌, ◌^◌, arith, ap, sym, subst, ◌∙◌, length, get_or}
use Rattle.sf_nets.proofs.Common.{sum_by, take_all}
use Rattle.sf_nets.proofs.NetParts.{net_inside}
use Rattle.sf_nets.proofs.PartSums.{IsRestBefore, IsSumBefore, lefts, lefts-few, net-adds, none-adds, of_left, of_net, rest-adds, rest-none}
use Rattle.sf_nets.proofs.sums.sum_and_rest.Goals.{then-net-gt0, else-net-gt0}
use Rattle.sf_nets.proofs.sums.sum_and_rest.Goals as goal

pub net_by-wire-requires-clause-inside : goal.net_by-wire-requires-clause-inside
net_by-wire-requires-clause-inside c =
    net_inside c.args.design.now c.loop-number.number c.net-item.result c.net-item.result (omega (arith, ap length c.as_slice-net-items.ensures))
    (c.net-item.is ∙ ap (λ v. get_or v c.loop-number.number c.net-item.result) c.as_slice-net-items.ensures)

pub loop-number-preserved : goal.loop-number-preserved
loop-number-preserved c =
    let d = c.args.design.now in
    let n = c.args.node.now in
    let part = c.args.part in
    let i = c.loop-number.number in
    let net = c.net-item.result in
    let lt : i < length d.nets = omega (arith, ap length c.as_slice-net-items.ensures) in
    let at : net ≡ get_or d.nets i net = c.net-item.is ∙ ap (λ v. get_or v i net) c.as_slice-net-items.ensures in
    let light : net.weight < 2 ^ 8 = subst (λ m. m.weight < 2 ^ 8) (sym at) (d.limits.net_weights i net lt) in
    let before = c.loop-number.invariant in
    elim c.if-net-gt0.branch [
      | then-net-gt0 w ↦ (
        subst (IsSumBefore d n part (i + 1)) (sym (w.sum-is ∙ ap (λ v. c.loop-number.sum + v) w.weighed-sum.ensures.is))
            (net-adds d n i net lt at part c.loop-number.sum w.net_by-wire.result before.0 w.net_by-wire.ensures.is w.net_by-wire.ensures.small light),
        subst (IsRestBefore d n part (i + 1)) (sym (w.rest-is ∙ ap (λ v. c.loop-number.rest + v) w.weighed-rest.ensures.is))
            (rest-adds d n i net lt at part c.loop-number.rest w.left_of.result w.net_by-wire.result before.1 w.left_of.ensures.is w.net_by-wire.ensures.is w.net_by-wire.ensures.small (omega arith)),
      )
      | else-net-gt0 w ↦ (
        subst (IsSumBefore d n part (i + 1)) (sym w.sum-is) (none-adds d n i net lt at part c.loop-number.sum before.0 (omega (arith, w.if-net-gt0.false))),
        subst (IsRestBefore d n part (i + 1)) (sym w.rest-is) (rest-none d n i net lt at part c.loop-number.rest before.1 (omega (arith, w.if-net-gt0.false))),
      )
    ]

pub returns-clause-sum : goal.returns-clause-sum
returns-clause-sum c =
    let d = c.args.design.now in
    let all : length d.nets ≤ c.loop-number.number = omega (arith, ap length c.as_slice-net-items.ensures) in
    c.loop-number.invariant.0.value ∙ ap (sum_by (of_net d c.args.node.now c.args.part)) (take_all c.loop-number.number d.nets all)

pub returns-clause-rest : goal.returns-clause-rest
returns-clause-rest c = λ full.
    let d = c.args.design.now in
    let n = c.args.node.now in
    let i = c.loop-number.number in
    let all : length d.nets ≤ i = omega (arith, ap length c.as_slice-net-items.ensures) in
    c.loop-number.invariant.1.value ∙ ap (sum_by (of_left d n c.args.part)) (take_all i (lefts d) (omega (arith, all, lefts-few d))) ∙ ap (λ p. sum_by (of_left d n p) (lefts d)) full
