use Rattle.std.proofs.Common.{◌++◌, length, map, refl, sym, ap, ◌∙◌, subst, arith}
use Rattle.sf_bounds.proofs.Common.{range_with_len, AreStored, weights_of, joined_cell, AreSums}
use Rattle.sf_bounds.proofs.NetKept.{stored-longer}
use Rattle.sf_bounds.proofs.NetPushed.{modest-left, modest-right, pushed-fits, joined-pushed}
use Rattle.sf_bounds.proofs.Weights.{length-weights, few-weighed}
use Rattle.sf_bounds.proofs.net_push.push_joined.Goals as goal

pub join_rows-requires-clause-few : goal.join_rows-requires-clause-few
join_rows-requires-clause-few c =
    omega (arith, ap length c.deref.ensures.value, ap length c.requires.kept.weights, length-weights c.args.design.now.nets, few-weighed c.args.design.now)

pub join_rows-requires-clause-near : goal.join_rows-requires-clause-near
join_rows-requires-clause-near c =
    let N = c.args.nets.now in
    let n = ap length c.deref.ensures.value ∙ ap length c.requires.kept.weights ∙ length-weights c.args.design.now.nets in
    λ j lt. pushed-fits c.args.design.now c.args.node.now N.cells.items N.blocks.items N.start N.frames.items c.args.direction c.top_pair.result.0 c.top_pair.result.1 c.requires.subproblem c.requires.kept.stored c.requires.next c.top_pair.ensures j (omega (arith, lt, n))

pub returns-in_err-wires-clause-kept : goal.returns-in_err-wires-clause-kept
returns-in_err-wires-clause-kept c =
    let N = c.args.nets.now in
    record {
      weights = c.requires.kept.weights;
      lefts = c.requires.kept.lefts;
      ranges = c.requires.kept.ranges;
      pairs = c.requires.kept.pairs;
      stored = stored-longer c.args.design.now c.args.node.now.tokens N.cells.items c.join_rows.new.cells.items N.blocks.items N.start N.frames.items c.requires.kept.stored c.in_err-wires.ensures.fit c.in_err-wires.ensures.longer;
    }

pub joined_extent-requires-clause-first : goal.joined_extent-requires-clause-first
joined_extent-requires-clause-first c =
    let N = c.args.nets.now in
    modest-left c.args.design.now c.args.node.now N.cells.items N.blocks.items N.start N.frames.items c.args.direction c.top_pair.result.0 c.top_pair.result.1 c.requires.subproblem c.requires.kept.stored c.requires.next c.top_pair.ensures

pub joined_extent-requires-clause-second : goal.joined_extent-requires-clause-second
joined_extent-requires-clause-second c =
    let N = c.args.nets.now in
    modest-right c.args.design.now c.args.node.now N.cells.items N.blocks.items N.start N.frames.items c.args.direction c.top_pair.result.0 c.top_pair.result.1 c.requires.subproblem c.requires.kept.stored c.requires.next c.top_pair.ensures

pub returns-in_err-push-clause-kept : goal.returns-in_err-push-clause-kept
returns-in_err-push-clause-kept c =
    let N = c.args.nets.now in
    record {
      weights = c.requires.kept.weights;
      lefts = c.requires.kept.lefts;
      ranges = c.requires.kept.ranges;
      pairs = c.requires.kept.pairs;
      stored = subst (AreStored c.args.design.now c.args.node.now.tokens c.join_rows.new.cells.items N.blocks.items N.start) (sym c.in_err-push.ensures.items)
          (stored-longer c.args.design.now c.args.node.now.tokens N.cells.items c.join_rows.new.cells.items N.blocks.items N.start N.frames.items c.requires.kept.stored c.in_ok-wires.ensures.fit c.in_ok-wires.ensures.longer);
    }

pub returns-clause-kept : goal.returns-clause-kept
returns-clause-kept c =
    let D = c.args.design.now in
    let N = c.args.nets.now in
    let l = c.top_pair.result.0 in
    let r = c.top_pair.result.1 in
    let u = c.wires_after-under.result in
    let weights = c.deref.ensures.value ∙ c.requires.kept.weights in
    let count = ap length weights ∙ length-weights D.nets in
    let f = joined_cell N.cells.items c.args.direction l.extent l.row r.row u.at in
    record {
      weights = c.requires.kept.weights;
      lefts = c.requires.kept.lefts;
      ranges = c.requires.kept.ranges;
      pairs = c.requires.kept.pairs;
      stored = joined-pushed D c.args.node.now N.cells.items N.blocks.items N.start N.frames.items c.args.direction l r c.requires.subproblem c.requires.kept.stored c.requires.next c.top_pair.ensures u c.wires_after-under.ensures
          c.join_rows.new.cells.items c.push.new.self.items _ c.in_ok-wires.ensures.fit
          (c.in_ok-wires.ensures.row ∙ ap (λ n. N.cells.items ++ map f (range_with_len 0 n)) count)
          c.operator.ensures c.joined_extent.ensures refl c.in_ok-wires.ensures.at c.in_ok-wires.ensures.at
          (subst (λ n. AreSums (weights_of D.nets) f n c.in_ok-wires.wires) (length-weights D.nets) (subst (λ ws. AreSums ws f (length ws) c.in_ok-wires.wires) weights c.in_ok-wires.ensures.sums)) (omega (arith, c.len-end.ensures)) c.in_ok-push.ensures.items;
    }
