use Rattle.std.proofs.Common.{◌≡◌, ◌+◌, All, map}
use Rattle.sf_rounds.proofs.Common.{sum_by}
use Rattle.sf_rounds.proofs.pooling.without_accounts.Given as goal

abbrev pub invariant-loop-member : goal.invariant-loop-member
invariant-loop-member g l = record {
  jobs : l.jobs.items ≡ map (λ m. m.job) l.yielded;
  account : l.account ≡ record l.fn.account { drawn = l.fn.account.drawn + sum_by (λ m. m.account.drawn) l.yielded };
  others : All (λ m. m.account.budget ≡ l.fn.budget.id) l.member-iterator.rest.items;
}
