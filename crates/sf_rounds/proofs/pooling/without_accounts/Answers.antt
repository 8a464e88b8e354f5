use Rattle.std.proofs.Common.{◌≡◌, ℕ, ◌+◌, [], ◌∷◌, ◌++◌, List, ap, ◌∙◌, subst, sym, arith, All}
use Rattle.sf_rounds.proofs.Common.{All-head, All-tail, Job, Member, map-append, sum_by, sum_by_push}
use Rattle.sf_budget.specs.Seen.{AccountView}
use Rattle.sf_rounds.proofs.pooling.without_accounts.Goals as goal

pub join-requires-clause-into : goal.join-requires-clause-into
join-requires-clause-into g c = ap (λ (a : AccountView). a.budget) c.loop-member.invariant.account ∙ c.requires.own

pub join-requires-clause-from : goal.join-requires-clause-from
join-requires-clause-from g c =
    let A : Member g.row.T.Denot → Type 0 = λ m. m.account.budget ≡ c.args.budget.now.id in
    All-head A c.in-Some.member c.next.new.self.rest.items (subst (All A) c.in-Some.ensures.steps.0 c.loop-member.invariant.others)

pub loop-member-preserved : goal.loop-member-preserved
loop-member-preserved g c =
    let S : Type 0 = g.row.T.Denot in
    let i = c.loop-member.invariant in
    let A : Member S → Type 0 = λ m. m.account.budget ≡ c.args.budget.now.id in
    let ms = c.loop-member.yielded in
    let m = c.in-Some.member in
    let drawn : Member S → ℕ = λ k. k.account.drawn in
    let sum : (c.args.account.now.drawn + sum_by drawn ms) + m.account.drawn ≡ c.args.account.now.drawn + sum_by drawn (ms ++ m ∷ []) = omega (arith, sum_by_push drawn ms m) in
    record {
      jobs = c.in_ok-push.ensures.items ∙ ap (λ (js : List (Job S)). js ++ m.job ∷ []) i.jobs ∙ sym (map-append (λ (k : Member S). k.job) ms (m ∷ []));
      account = c.join.ensures ∙ ap (λ (a : AccountView). record a { drawn = a.drawn + m.account.drawn }) i.account ∙ ap (λ (n : ℕ). record c.args.account.now { drawn = n }) sum;
      others = All-tail A m c.next.new.self.rest.items (subst (All A) c.in-Some.ensures.steps.0 i.others);
    }
