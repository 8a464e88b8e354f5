use Rattle.std.proofs.Common.{List, [], ◌∷◌, ◌++◌, ap, ◌∙◌, subst, sym, map, All}
use Rattle.sf_rounds.proofs.Common.{All-push, IsNew, Job, Member, map-append}
use Rattle.sf_rounds.proofs.pooling.with_accounts.Goals as goal

pub loop-job-preserved : goal.loop-job-preserved
loop-job-preserved g c =
    let S : Type 0 = g.row.T.Denot in
    let i = c.loop-job.invariant in
    let A : Member S → Type 0 = λ m. IsNew c.args.budget.now m.account in
    let ms = c.loop-job.members.items in
    let new : Member S = record { job = c.in-Some.job; account = c.split-own.result } in
    record {
      jobs = ap (map (λ (m : Member S). m.job)) c.in_ok-push.ensures.items ∙ map-append (λ (m : Member S). m.job) ms (new ∷ []) ∙ ap (λ (js : List (Job S)). js ++ c.in-Some.job ∷ []) i.jobs;
      accounts = subst (All A) (sym c.in_ok-push.ensures.items) (All-push A ms new i.accounts c.split-own.ensures.other);
      account = c.split-own.ensures.one ∙ i.account;
    }
