use Rattle.std.proofs.Common.{[], ap, sym, subst, ◌∙◌, arith}
use Rattle.sf_bounds.proofs.Common.{Range, Pair, wires_by, Wires, AreStored, weights_of}
use Rattle.sf_bounds.proofs.NetStarted.{started}
use Rattle.sf_bounds.proofs.net_start.start.Goals as goal

pub returns : goal.returns
returns c =
    let D = c.args.design.now in
    record {
      weights = c.in_ok-weights.ensures ∙ ap weights_of c.as_slice.ensures;
      lefts = c.in_ok-lefts.ensures;
      ranges = c.in_ok-parts.ensures.range ∙ ap (λ n. wires_by D n Range) c.in_ok-node.ensures;
      pairs = c.in_ok-parts.ensures.pair ∙ ap (λ n. wires_by D n Pair) c.in_ok-node.ensures;
      stored = subst (AreStored D [] c.push_start.new.cells.items c.in_ok-blocks.blocks.items (let w : Wires = record { at = c.len-at.result; sum = c.in_ok-sum.sum; hull = 0 } in w)) (sym c.new.ensures.items)
          (started D c.push_block_rows.new.cells.items c.push_start.new.cells.items c.in_ok-blocks.blocks.items c.len-at.result c.in_ok-sum.sum c.in_ok-blocks.ensures c.in_ok-sum.ensures.fit (omega (arith, c.len-at.ensures)) c.in_ok-sum.ensures.row c.in_ok-sum.ensures.sum);
    }
