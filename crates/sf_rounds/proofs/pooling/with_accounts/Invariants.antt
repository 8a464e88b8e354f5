use Rattle.std.proofs.Common.{◌≡◌, All, map}
use Rattle.sf_rounds.proofs.Common.{IsNew}
use Rattle.sf_rounds.proofs.pooling.with_accounts.Given as goal

abbrev pub invariant-loop-job : goal.invariant-loop-job
invariant-loop-job g l = record {
  jobs : map (λ m. m.job) l.members.items ≡ l.yielded;
  accounts : All (λ m. IsNew l.fn.budget m.account) l.members.items;
  account : l.account ≡ l.fn.account;
}
