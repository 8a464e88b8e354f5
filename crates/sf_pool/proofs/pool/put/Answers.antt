use Rattle.std.proofs.Common.{◌∙◌, ◌++◌, reverse, ap, arith, List}
use Rattle.sf_pool.proofs.Common.{Task}
use Rattle.sf_pool.proofs.Replaced.{put-last}
use Rattle.sf_pool.proofs.pool.put.Goals as goal

pub loop-child-preserved : goal.loop-child-preserved
loop-child-preserved c =
    let popped = c.in-Some.ensures in
    let rest = c.pop.new.self.items in
    record {
      room = omega (arith, popped.len, c.push_reserved.ensures.len, c.push_reserved.ensures.capacity, c.loop-child.invariant.room);
      split = ap (λ (z : List Task). z ++ reverse rest) c.push_reserved.ensures.items
          ∙ put-last c.loop-child.waiting.items c.loop-child.children.items rest c.in-Some.child popped.items
          ∙ c.loop-child.invariant.split;
    }
