use Rattle.std.proofs.Common.{◌≡◌, arith, sym, subst, true}
use Rattle.sf_measuring.proofs.Common.{is_some, Block, value_in}
use Rattle.sf_measuring.proofs.Placing.{one_spot_more, numbered_more, near_more}
use Rattle.sf_measuring.proofs.placed_lines.place_blocks.Goals as goal

pub spot_of-requires : goal.spot_of-requires
spot_of-requires c = record {
  known = subst (λ (block : Block). is_some (value_in c.in_ok-index.index block.name) ≡ true) (sym c.index-blocks-number.is) (c.in_ok-index.ensures.names c.loop-number.number c.index-blocks-number.result c.loop-number-test.true);
  indexed = c.in_ok-index.ensures.kept;
  near = c.requires.near;
}

pub loop-number-preserved : goal.loop-number-preserved
loop-number-preserved c =
    let old = c.loop-number.spots.items in
    let new = c.push.new.self.items in
    let i = c.loop-number.number in
    let was = c.loop-number.invariant in
    record {
      said = one_spot_more c.args.blocks.now c.args.lines.now i c.index-blocks-number.result old new c.in_ok-spot.spot _ c.loop-number-test.true c.index-blocks-number.is c.in_ok-spot.ensures.spot c.in_ok-push.ensures.items was.said;
      one_each = omega (arith, c.in_ok-push.ensures.len, was.one_each);
      by_number = numbered_more old new c.in_ok-spot.spot i was.by_number c.in_ok-spot.ensures.block c.in_ok-push.ensures.items;
      near = near_more old new c.in_ok-spot.spot was.near c.in_ok-spot.ensures.near c.in_ok-push.ensures.items;
    }
