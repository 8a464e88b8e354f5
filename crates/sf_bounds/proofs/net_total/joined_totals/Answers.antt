use Rattle.std.proofs.Common.{ℕ, max, ◌+◌, ◌*◌, ◌<◌, ◌≤◌, arith, ap, sym, subst, length, get_or, ◌∙◌}
use Rattle.sf_bounds.proofs.Common.{sum_by, take_all, get_or_default, Hull, net_part, weighed_part, pins_by, token_in, IsNext, Cell, weighed_nets, weighed_lefts}
use Rattle.sf_bounds.proofs.NetTotal.{read-cell, counts-there, total-more, hull-total-more, rest-total-more}
use Rattle.sf_bounds.proofs.Lefts.{length-lefts, length-lefts_of, sum-lefts}
use Rattle.sf_bounds.proofs.Weights.{few-weighed, length-weights, sum-of_weight}
use Rattle.sf_bounds.proofs.net_total.joined_totals.Goals as goal

pub top_pair-requires-clause-next : goal.top_pair-requires-clause-next
top_pair-requires-clause-next c = subst (λ (n : ℕ). IsNext c.args.node.now.tokens n (token_in c.args.direction)) (sym c.requires.all) c.requires.ending.1

pub overflow_add-sum : goal.overflow_add-sum
overflow_add-sum c =
    let D = c.args.design.now in
    omega (arith, c.loop-net.invariant.small, c.weighed-sum.ensures.small, c.loop-net-test.true, c.len-net-end.ensures, ap length c.requires.kept.weights, length-weights D.nets, few-weighed D)

pub overflow_add-hull : goal.overflow_add-hull
overflow_add-hull c =
    let D = c.args.design.now in
    omega (arith, c.loop-net.invariant.small_hull, c.weighed-hull.ensures.small, c.loop-net-test.true, c.len-net-end.ensures, ap length c.requires.kept.weights, length-weights D.nets, few-weighed D)

pub overflow_add-rest : goal.overflow_add-rest
overflow_add-rest c =
    let D = c.args.design.now in
    omega (arith, c.loop-net.invariant.small_rest, c.weighed-rest.ensures.small, c.loop-net-test.true, c.len-net-end.ensures, ap length c.requires.kept.weights, length-weights D.nets, few-weighed D)

pub index-spare-requires : goal.index-spare-requires
index-spare-requires c =
    let D = c.args.design.now in
    omega (arith, c.loop-net-test.true, c.len-net-end.ensures, ap length c.requires.kept.weights, length-weights D.nets, ap length c.requires.kept.lefts, length-lefts_of D)

pub joined_gap-gap-requires-clause-next : goal.joined_gap-gap-requires-clause-next
joined_gap-gap-requires-clause-next c = subst (λ (n : ℕ). IsNext c.args.node.now.tokens n (token_in c.args.direction)) (sym c.requires.all) c.requires.ending.1

pub loop-net-preserved : goal.loop-net-preserved
loop-net-preserved c =
    let D = c.args.design.now in
    let N = c.args.nets.now in
    let j = c.loop-net.net in
    let at : j < length N.weights.items = omega (arith, c.loop-net-test.true, c.len-net-end.ensures) in
    let lt = counts-there D N.weights.items j c.requires.kept.weights at in
    let i = c.loop-net.invariant in
    let l = c.top_pair.result.0 in
    let r = c.top_pair.result.1 in
    let d = c.args.direction in
    let next = subst (λ (n : ℕ). IsNext c.args.node.now.tokens n (token_in d)) (sym c.requires.all) c.requires.ending.1 in
    let start = read-cell N.cells.items (N.start.at + j) c.index-start.result.now c.index-start.ensures (omega (arith, lt, c.requires.kept.stored.start_is.wires.inside)) in
    let gap = c.joined_gap-gap.result in
    let is_gap = c.joined_gap-gap.ensures.is in
    let weight = c.index-weight.result.now in
    let of_net = c.index-weight.ensures ∙ get_or_default N.weights.items j weight 0 at ∙ ap (λ ws. get_or ws j 0) c.requires.kept.weights in
    let is_value = c.max-part.ensures ∙ ap (λ n. max n gap) (c.from.ensures ∙ ap (λ (v : Cell). v.part) start) in
    let more = total-more D c.args.node.now N.cells.items N.blocks.items N.start N.frames.items d l r c.requires.subproblem c.requires.kept.stored next c.top_pair.ensures c.requires.whole c.requires.all c.requires.ending.0 j c.loop-net.sum weight gap lt of_net is_gap c.max-part.result is_value i.sum in
    let more_hull = hull-total-more D c.args.node.now N.cells.items N.blocks.items N.start N.frames.items d l r c.requires.subproblem c.requires.kept.stored next c.top_pair.ensures c.requires.whole c.requires.all c.requires.ending.0 j c.loop-net.hull weight gap lt of_net is_gap i.hull in
    let held : j < length N.lefts.items = omega (arith, lt, ap length c.requires.kept.lefts, length-lefts_of D) in
    let left = c.index-spare.result.now in
    let of_left = c.index-spare.ensures ∙ get_or_default N.lefts.items j left 0 held ∙ ap (λ ls. get_or ls j 0) c.requires.kept.lefts in
    let more_rest = rest-total-more D c.args.node.now N.cells.items N.blocks.items N.start N.frames.items d l r c.requires.subproblem c.requires.kept.stored next c.top_pair.ensures c.requires.whole c.requires.all c.requires.ending.0 j c.loop-net.sum weight gap lt of_net is_gap c.loop-net.rest left c.max-part.result of_left is_value i.rest in
    record {
      sum = ap (λ v. c.loop-net.sum + v) c.weighed-sum.ensures.is ∙ more;
      small = omega (arith, i.small, c.weighed-sum.ensures.small);
      hull = ap (λ v. c.loop-net.hull + v) c.weighed-hull.ensures.is ∙ more_hull;
      small_hull = omega (arith, i.small_hull, c.weighed-hull.ensures.small);
      rest = ap (λ v. c.loop-net.rest + v) c.weighed-rest.ensures.is ∙ more_rest;
      small_rest = omega (arith, i.small_rest, c.weighed-rest.ensures.small);
    }

pub returns-clause-sum : goal.returns-clause-sum
returns-clause-sum c =
    let D = c.args.design.now in
    let all : length (weighed_nets D) ≤ c.loop-net.net = omega (arith, c.loop-net-test.false, c.len-net-end.ensures, ap length c.requires.kept.weights, length-weights D.nets) in
    c.loop-net.invariant.sum
    ∙ ap (sum_by (weighed_part D c.args.node.now)) (take_all c.loop-net.net (weighed_nets D) all)
    ∙ sum-of_weight (net_part D c.args.node.now) D.nets

pub returns-clause-hull : goal.returns-clause-hull
returns-clause-hull c =
    let D = c.args.design.now in
    let all : length (weighed_nets D) ≤ c.loop-net.net = omega (arith, c.loop-net-test.false, c.len-net-end.ensures, ap length c.requires.kept.weights, length-weights D.nets) in
    c.loop-net.invariant.hull
    ∙ ap (sum_by (λ n. n.weight * pins_by D c.args.node.now n.pins Hull)) (take_all c.loop-net.net (weighed_nets D) all)
    ∙ sum-of_weight (λ n. pins_by D c.args.node.now n.pins Hull) D.nets

pub returns-clause-rest : goal.returns-clause-rest
returns-clause-rest c =
    let D = c.args.design.now in
    let all : length (weighed_lefts D) ≤ c.loop-net.net = omega (arith, c.loop-net-test.false, c.len-net-end.ensures, ap length c.requires.kept.weights, length-weights D.nets, length-lefts D) in
    c.loop-net.invariant.rest
    ∙ ap (sum_by (λ n. n.0 * net_part D c.args.node.now n.1)) (take_all c.loop-net.net (weighed_lefts D) all)
    ∙ sum-lefts D (net_part D c.args.node.now)

pub returns-clause-small : goal.returns-clause-small
returns-clause-small c =
    let D = c.args.design.now in
    omega (arith, c.loop-net.invariant.small_rest, few-weighed D, c.len-net-end.ensures, ap length c.requires.kept.weights, length-weights D.nets)
