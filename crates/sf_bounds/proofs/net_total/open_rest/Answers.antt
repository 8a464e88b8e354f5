use Rattle.std.proofs.Common.{◌≡◌, ℕ, ◌+◌, ◌*◌, ◌<◌, ◌≤◌, arith, ap, length, get_or, ◌∙◌}
use Rattle.sf_bounds.proofs.Common.{sum_by, take_all, get_or_default, net_part, Cell, weighed_nets, weighed_lefts}
use Rattle.sf_bounds.proofs.Lefts.{length-lefts, length-lefts_of, rest-more, sum-lefts}
use Rattle.sf_bounds.proofs.NetTotal.{open-cell, read-cell, read-fits}
use Rattle.sf_bounds.proofs.Weights.{few-weighed}
use Rattle.sf_bounds.proofs.net_total.open_rest.Goals as goal

pub index-cell-requires : goal.index-cell-requires
index-cell-requires c =
    let D = c.args.design.now in
    omega (arith, c.loop-net-test.true, c.len-net-end.ensures, ap length c.requires.kept.lefts, length-lefts_of D, c.wires_after-at.ensures.inside)

pub weighed-rest-requires : goal.weighed-rest-requires
weighed-rest-requires c =
    let D = c.args.design.now in
    let N = c.args.nets.now in
    let j = c.loop-net.net in
    let lt : j < length (weighed_nets D) = omega (arith, c.loop-net-test.true, c.len-net-end.ensures, ap length c.requires.kept.lefts, length-lefts_of D) in
    let fit = read-fits N.cells.items (c.wires_after-at.result.at + j) c.index-cell.result.now c.requires.kept.stored.fit c.index-cell.ensures (omega (arith, lt, c.wires_after-at.ensures.inside)) in
    omega (arith, fit.small)

pub overflow_add-rest : goal.overflow_add-rest
overflow_add-rest c =
    let D = c.args.design.now in
    omega (arith, c.loop-net.invariant.small, c.weighed-rest.ensures.small, c.loop-net-test.true, c.len-net-end.ensures, ap length c.requires.kept.lefts, length-lefts_of D, few-weighed D)

pub loop-net-preserved : goal.loop-net-preserved
loop-net-preserved c =
    let D = c.args.design.now in
    let N = c.args.nets.now in
    let n = c.args.node.now in
    let j = c.loop-net.net in
    let w = c.wires_after-at.result in
    let held : j < length N.lefts.items = omega (arith, c.loop-net-test.true, c.len-net-end.ensures) in
    let lt : j < length (weighed_nets D) = omega (arith, held, ap length c.requires.kept.lefts, length-lefts_of D) in
    let cell = read-cell N.cells.items (w.at + j) c.index-cell.result.now c.index-cell.ensures (omega (arith, lt, c.wires_after-at.ensures.inside)) in
    let left = c.index-spare.result.now in
    let of_left = c.index-spare.ensures ∙ get_or_default N.lefts.items j left 0 held ∙ ap (λ ls. get_or ls j 0) c.requires.kept.lefts in
    let part = open-cell D n N.cells.items w c.len.result c.requires.subproblem c.requires.whole (omega (arith, c.len.ensures, c.requires.all)) c.requires.ending c.wires_after-at.ensures j lt in
    let value = c.from.ensures ∙ ap (λ (v : Cell). v.part) cell ∙ part in
    let more = rest-more D (net_part D n) j lt c.loop-net.rest left c.from.result of_left value c.loop-net.invariant.rest in
    record {
      rest = ap (λ v. c.loop-net.rest + v) c.weighed-rest.ensures.is ∙ more;
      small = omega (arith, c.loop-net.invariant.small, c.weighed-rest.ensures.small);
    }

pub returns-clause-rest : goal.returns-clause-rest
returns-clause-rest c =
    let D = c.args.design.now in
    let all : length (weighed_lefts D) ≤ c.loop-net.net = omega (arith, c.loop-net-test.false, c.len-net-end.ensures, ap length c.requires.kept.lefts, length-lefts_of D, length-lefts D) in
    c.loop-net.invariant.rest
    ∙ ap (sum_by (λ n. n.0 * net_part D c.args.node.now n.1)) (take_all c.loop-net.net (weighed_lefts D) all)
    ∙ sum-lefts D (net_part D c.args.node.now)

pub returns-clause-small : goal.returns-clause-small
returns-clause-small c =
    let D = c.args.design.now in
    omega (arith, c.loop-net.invariant.small, few-weighed D, c.len-net-end.ensures, ap length c.requires.kept.lefts, length-lefts_of D)
