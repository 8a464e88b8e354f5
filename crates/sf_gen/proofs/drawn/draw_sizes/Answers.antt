use Rattle.sf_gen.proofs.Common.{size_at}
use Rattle.sf_gen.proofs.Growing.{one_drawn}
use Rattle.sf_gen.proofs.drawn.draw_sizes.Goals as goal

pub loop-block-preserved : goal.loop-block-preserved
loop-block-preserved c =
    let n = c.loop-block._block in
    let before = c.loop-block.invariant in
    let drawn = c.draw_size.ensures in
    record {
      sizes = λ seed h.
          one_drawn (size_at seed) n c.loop-block.sizes.items c.push.new.self.items c.draw_size.result
          (before.sizes seed h) (drawn.size seed n (before.moved seed h)) c.in_ok-push.ensures.items;
      moved = λ seed h. drawn.moved seed n (before.moved seed h);
    }
