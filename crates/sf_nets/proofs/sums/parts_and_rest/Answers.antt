use Rattle.std.proofs.Common.{◌≡◌, ◌+◌, ◌<◌, ◌≤◌, ◌^◌, arith, ap, sym, subst, ◌∙◌, length, get_or}
use Rattle.sf_nets.proofs.Common.{sum_by, take_all, Full, Hull, Pair, Range, Part}
use Rattle.sf_nets.proofs.NetParts.{net_inside}
use Rattle.sf_nets.proofs.PartSums.{ArePartsBefore, IsRestBefore, lefts, lefts-few, net-counts, net-free, of_left, of_net, rest-adds, rest-none}
use Rattle.sf_nets.proofs.sums.parts_and_rest.Goals.{then-net-gt0, else-net-gt0}
use Rattle.sf_nets.proofs.sums.parts_and_rest.Goals as goal

pub net_parts-parts-requires-clause-inside : goal.net_parts-parts-requires-clause-inside
net_parts-parts-requires-clause-inside c =
    net_inside c.args.design.now c.loop-number.number c.net-item.result c.net-item.result (omega (arith, ap length c.as_slice-net-items.ensures))
    (c.net-item.is ∙ ap (λ v. get_or v c.loop-number.number c.net-item.result) c.as_slice-net-items.ensures)

pub loop-number-preserved : goal.loop-number-preserved
loop-number-preserved c =
    let d = c.args.design.now in
    let n = c.args.node.now in
    let i = c.loop-number.number in
    let net = c.net-item.result in
    let lt : i < length d.nets = omega (arith, ap length c.as_slice-net-items.ensures) in
    let at : net ≡ get_or d.nets i net = c.net-item.is ∙ ap (λ v. get_or v i net) c.as_slice-net-items.ensures in
    let light : net.weight < 2 ^ 8 = subst (λ m. m.weight < 2 ^ 8) (sym at) (d.limits.net_weights i net lt) in
    let before = c.loop-number.invariant in
    elim c.if-net-gt0.branch [
      | then-net-gt0 w ↦ (
        subst (ArePartsBefore d n (i + 1)) (sym w.sums-is)
            (net-counts d n i net lt at c.loop-number.sums w.with_net-sums.result w.net_parts-parts.result before.0 w.net_parts-parts.ensures.are w.net_parts-parts.ensures.small light w.with_net-sums.ensures.range w.with_net-sums.ensures.pair w.with_net-sums.ensures.hull w.with_net-sums.ensures.full),
        subst (IsRestBefore d n Full (i + 1)) (sym (w.rest-is ∙ ap (λ v. c.loop-number.rest + v) w.weighed-rest.ensures.is))
            (rest-adds d n i net lt at Full c.loop-number.rest w.left_of.result w.net_parts-parts.result.full before.1 w.left_of.ensures.is w.net_parts-parts.ensures.are.full w.net_parts-parts.ensures.small.full (omega arith)),
      )
      | else-net-gt0 w ↦ (
        subst (ArePartsBefore d n (i + 1)) (sym w.sums-is) (net-free d n i net lt at c.loop-number.sums before.0 (omega (arith, w.if-net-gt0.false))),
        subst (IsRestBefore d n Full (i + 1)) (sym w.rest-is) (rest-none d n i net lt at Full c.loop-number.rest before.1 (omega (arith, w.if-net-gt0.false))),
      )
    ]

pub returns-clause-parts : goal.returns-clause-parts
returns-clause-parts c =
    let d = c.args.design.now in
    let i = c.loop-number.number in
    let all : length d.nets ≤ i = omega (arith, ap length c.as_slice-net-items.ensures) in
    let values = c.loop-number.invariant.0.values in
    let whole = λ (part : Part). ap (sum_by (of_net d c.args.node.now part)) (take_all i d.nets all) in
    record {
      range = values.range ∙ whole Range;
      pair = values.pair ∙ whole Pair;
      hull = values.hull ∙ whole Hull;
      full = values.full ∙ whole Full;
    }

pub returns-clause-rest : goal.returns-clause-rest
returns-clause-rest c =
    let d = c.args.design.now in
    let i = c.loop-number.number in
    let all : length d.nets ≤ i = omega (arith, ap length c.as_slice-net-items.ensures) in
    c.loop-number.invariant.1.value ∙ ap (sum_by (of_left d c.args.node.now Full)) (take_all i (lefts d) (omega (arith, all, lefts-few d)))
