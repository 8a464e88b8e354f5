use Rattle.std.proofs.Common.{◌≡◌, ◌+◌, ◌≤◌, ap, ◌∙◌, arith}
use Rattle.sf_rounds.proofs.Common.{sum_by}
use Rattle.sf_rounds.proofs.Grown.{all_accounts, all_start, drawn_by, pooled}
use Rattle.sf_budget.specs.Seen.{AccountView}
use Rattle.sf_rounds.proofs.pooling.run_pooled.Goals as goal

pub run_all-members-requires-clause-ready : goal.run_all-members-requires-clause-ready
run_all-members-requires-clause-ready g c κs within =
    let design = c.args.design.now in
    all_start design (g.B.Values.value c.args.bounds.now design) (g.B.Bounds.part_value c.args.bounds.now design) c.args.word.now c.in_ok-budget.budget c.args.jobs.items c.in_ok-members.members.items c.in_ok-members.ensures.jobs c.requires.ready c.in_ok-members.ensures.accounts

pub without_accounts-requires-clause-accounts : goal.without_accounts-requires-clause-accounts
without_accounts-requires-clause-accounts g c =
    let design = c.args.design.now in
    all_accounts design (g.B.Values.value c.args.bounds.now design) (g.B.Bounds.part_value c.args.bounds.now design) c.in_ok-budget.budget c.in_ok-members.members.items c.run_all-members.result.items c.run_all-members.ensures c.in_ok-members.ensures.accounts

pub returns : goal.returns
returns g c =
    let design = c.args.design.now in
    let ns = c.run_all-members.result.items in
    let drawn : c.without_accounts.new.account.drawn ≡ c.with_accounts.new.account.drawn + sum_by drawn_by ns = ap (λ (a : AccountView). a.drawn) c.in_ok-jobs.ensures.account in
    let nothing : c.with_accounts.new.account.drawn ≡ 0 = ap (λ (a : AccountView). a.drawn) (c.in_ok-members.ensures.account ∙ c.in_ok-budget.ensures.account) in
    let within : sum_by drawn_by ns ≤ c.args.rest = (let d = c.finish.ensures in omega (arith, d, drawn, nothing, c.in_ok-budget.ensures.budget)) in
    pooled design (g.B.Values.value c.args.bounds.now design) (g.B.Bounds.part_value c.args.bounds.now design) c.args.rest c.args.jobs.items c.in_ok-jobs.jobs.items c.in_ok-members.members.items ns c.in_ok-members.ensures.jobs c.in_ok-jobs.ensures.jobs c.run_all-members.ensures within
