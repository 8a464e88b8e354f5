use Rattle.std.proofs.Common.{◌≡◌, length, get_or, ap, ◌∙◌, subst, arith}
use Rattle.sf_bounds.proofs.Common.{items_at, block-inside, AreWires}
use Rattle.sf_bounds.proofs.NetPushed.{block-pushed}
use Rattle.sf_bounds.proofs.net_push.push_block.Goals as goal

pub index-requires : goal.index-requires
index-requires c =
    let N = c.args.nets.now in
    omega (arith, block-inside c.args.design.now c.args.node.now (length N.frames.items) c.args.block c.requires.subproblem c.requires.next, c.requires.kept.stored.start_is.rows.count, c.from.ensures)

pub returns-clause-kept : goal.returns-clause-kept
returns-clause-kept c =
    let D = c.args.design.now in
    let T = c.args.node.now.tokens in
    let N = c.args.nets.now in
    let x = c.index.result.now in
    let w = c.wires_after-wires.result in
    let count : c.len-below.result ≡ length N.frames.items = omega (arith, c.len-below.ensures) in
    record {
      weights = c.requires.kept.weights;
      lefts = c.requires.kept.lefts;
      ranges = c.requires.kept.ranges;
      pairs = c.requires.kept.pairs;
      stored = block-pushed D c.args.node.now N.cells.items N.blocks.items N.start N.frames.items c.push.new.self.items c.args.block x x w c.len-below.result c.len-end.result c.requires.subproblem c.requires.kept.stored c.requires.next
          (c.index.ensures ∙ ap (λ i. get_or N.blocks.items i x) c.from.ensures)
          (subst (λ n. AreWires D N.cells.items (items_at T n) w) count c.wires_after-wires.ensures)
          count (omega (arith, c.len-end.ensures)) c.in_ok-push.ensures.items;
    }
