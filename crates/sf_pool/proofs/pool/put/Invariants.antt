use Rattle.std.proofs.Common.{◌≡◌, ◌≤◌, ◌+◌, ◌++◌, reverse, vec_len, vec_capacity}
use Rattle.sf_pool.proofs.pool.put.Given as goal

abbrev pub invariant-loop-child : goal.invariant-loop-child
invariant-loop-child l = record {
  room : vec_len l.waiting + vec_len l.children ≤ vec_capacity l.waiting;
  split : l.waiting.items ++ reverse l.children.items ≡ l.initial.waiting.items ++ reverse l.initial.children.items;
}

abbrev pub decreases-loop-child : goal.decreases-loop-child
decreases-loop-child l = vec_len l.children
