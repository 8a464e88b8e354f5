use Rattle.std.proofs.Common.{◌+◌, ◌≤◌, take}
use Rattle.sf_rounds.proofs.Common.{Begins, EachTwo, sum}
use Rattle.sf_rounds.proofs.pooling.first_quotas.Given as goal

abbrev pub invariant-loop-quota : goal.invariant-loop-quota
invariant-loop-quota l = record {
  each : EachTwo Begins (take l.quota-index l.quotas) l.first.items;
  within : sum l.first.items + l.rest ≤ sum (take l.quota-index l.quotas);
}
