use Rattle.std.proofs.Common.{◌≡◌, ◌+◌, ◌<◌, ◌≤◌, length, sum, slice_index_or}
use Rattle.sf_rounds.proofs.legs.quotas_of.Given as goal

abbrev pub invariant-loop-worker : goal.invariant-loop-worker
invariant-loop-worker l = record {
  count : length l.quotas.items ≡ l.worker;
  few : sum l.quotas.items + l.left ≡ l.fn.left;
  first : 0 < l.worker → 1 ≤ slice_index_or l.quotas.items 0 0;
}
