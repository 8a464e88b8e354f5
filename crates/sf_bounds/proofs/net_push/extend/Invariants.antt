use Rattle.std.proofs.Common.{◌-◌, ◌≤◌, length}
use Rattle.sf_bounds.proofs.Common.{AreKept}
use Rattle.sf_bounds.proofs.net_push.extend.Given as goal

abbrev pub invariant-loop-tokens : goal.invariant-loop-tokens
invariant-loop-tokens l = record {
  kept : AreKept l.design l.node.tokens l.nets;
  few : length l.nets.frames.items ≤ l.count;
}

abbrev pub decreases-loop-tokens : goal.decreases-loop-tokens
decreases-loop-tokens l = l.count - length l.nets.frames.items
