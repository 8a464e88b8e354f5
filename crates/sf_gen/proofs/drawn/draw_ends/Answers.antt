use Rattle.sf_gen.proofs.Common.{ends_at}
use Rattle.sf_gen.proofs.Growing.{one_drawn}
use Rattle.sf_gen.proofs.drawn.draw_ends.Goals as goal

pub loop-net-preserved : goal.loop-net-preserved
loop-net-preserved c =
    let n = c.loop-net._net in
    let before = c.loop-net.invariant in
    let drawn = c.draw_ends_of_net.ensures in
    record {
      ends = λ seed h.
          one_drawn (ends_at seed c.args.count) n c.loop-net.ends.items c.push.new.self.items c.draw_ends_of_net.result
          (before.ends seed h) (drawn.ends seed n (before.moved seed h)) c.in_ok-push.ensures.items;
      moved = λ seed h. drawn.moved seed n (before.moved seed h);
    }
