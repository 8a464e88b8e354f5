use Rattle.std.proofs.Common.{◌≡◌, ◌<◌, [], ◌∷◌, ◌++◌, map, take, arith, ap, ◌∙◌, length, length-append, get_or}
use Rattle.sf_bounds.proofs.Common.{take_all, length-take-le, sum_by_more, root, weighed_part, of_weight, start_cell}
use Rattle.sf_nets.proofs.NetParts.{net_inside}
use Rattle.sf_bounds.proofs.Weights.{few-kept, of_weight-more, row-step}
use Rattle.sf_bounds.proofs.net_start.push_start.Goals as goal

pub push_net-requires-clause-inside : goal.push_net-requires-clause-inside
push_net-requires-clause-inside c =
    net_inside c.args.design.now c.loop-net.net-index c.net-item.result c.net-item.result (omega (arith, ap length c.as_slice-net-items.ensures))
    (c.net-item.is ∙ ap (λ v. get_or v c.loop-net.net-index c.net-item.result) c.as_slice-net-items.ensures)

pub overflow_add-sum : goal.overflow_add-sum
overflow_add-sum c =
    let nets = c.args.design.now.nets in
    let i = c.loop-net.net-index in
    let lt : i < length nets = omega (arith, ap length c.as_slice-net-items.ensures) in
    omega (arith, c.loop-net.invariant.small, c.in_ok-sum.ensures.small, few-kept (take i nets), length-take-le i nets (omega (arith, lt)), few-kept (c.net-item.result ∷ []), c.args.design.now.limits.few_nets)

pub loop-net-preserved : goal.loop-net-preserved
loop-net-preserved c =
    let D = c.args.design.now in
    let i = c.loop-net.net-index in
    let net = c.net-item.result in
    let lt : i < length D.nets = omega (arith, ap length c.as_slice-net-items.ensures) in
    let at : net ≡ get_or D.nets i net = c.net-item.is ∙ ap (λ v. get_or v i net) c.as_slice-net-items.ensures in
    let many = ap length (of_weight-more D.nets i net at lt) ∙ length-append (of_weight (take i D.nets)) (of_weight (net ∷ [])) in
    record {
      row = row-step (start_cell D) c.args.cells.now.items c.loop-net.cells.items c.push_net.new.cells.items D.nets i net c.loop-net.invariant.row c.in_ok-sum.ensures.row at lt;
      sum = omega (arith, c.loop-net.invariant.sum, c.in_ok-sum.ensures.part, sum_by_more (weighed_part D (root D)) D.nets i net lt, ap (weighed_part D (root D)) at);
      small = omega (arith, c.loop-net.invariant.small, c.in_ok-sum.ensures.small, many);
      fit = c.in_ok-sum.ensures.fit;
    }

pub returns-clause-row : goal.returns-clause-row
returns-clause-row c =
    c.loop-net.invariant.row
    ∙ ap (λ v. c.args.cells.now.items ++ map (start_cell c.args.design.now) (of_weight v)) (take_all c.loop-net.net-index c.args.design.now.nets (omega (arith, c.loop-net-test.false, ap length c.as_slice-net-items.ensures)))

pub returns-clause-small : goal.returns-clause-small
returns-clause-small c =
    let all = take_all c.loop-net.net-index c.args.design.now.nets (omega (arith, c.loop-net-test.false, ap length c.as_slice-net-items.ensures)) in
    omega (arith, c.loop-net.invariant.small, ap (λ v. length (of_weight v)) all)
