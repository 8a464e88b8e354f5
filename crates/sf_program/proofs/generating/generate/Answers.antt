use Rattle.std.proofs.Common.{◌++◌, ℕ, false, List, None, Ok, Err, inl, ap, sym, subst, ◌∙◌}
use Rattle.sf_program.proofs.Common.{err_from_is_err_and, Status, block_count, gen_seen, GenRead, cert_name, BudgetTested, IsAnswered, budget_of, Stored, stored_in, Standard}
use Rattle.sf_generated.proofs.Made.{never-stops}
use Rattle.sf_program.proofs.generating.generate.Goals as goal

pub returns-in_err-made-clause-refused : goal.returns-in_err-made-clause-refused
returns-in_err-made-clause-refused g c =
    let p = err_from_is_err_and c.from_residual-in_err-made.result c.from_residual-in_err-made.ensures.1 in
    rw (p.1, p.2) (never-stops (λ why. GenRead (gen_seen c.args.words.now) (Err why)) c.in_err-made.field-0.0 c.in_err-made.ensures.never)

pub returns-clause-answer : goal.returns-clause-answer
returns-clause-answer g c =
    let words = c.args.words.now in
    let o = gen_seen words in
    let found = c.in_ok-searched.searched in
    let design = c.in_ok-made.made.design in
    let budget = budget_of words.nodes (block_count design) in
    let stores = stored_in found.stores.items in
    let tested : BudgetTested false words.nodes words.count (Ok (budget_of words.nodes words.count)) =
    subst (λ (n : ℕ). BudgetTested false words.nodes n (Ok (budget_of words.nodes n))) c.from.ensures c.in_ok-test_budget.ensures.budget in
    let stated : IsAnswered Standard design 1 budget None 1 (cert_name o) None c.in_ok-work.work.status stores found.text.items =
    subst (λ (s : Status). IsAnswered Standard design 1 budget None 1 (cert_name o) None s stores found.text.items) (sym c.in_ok-work.ensures.status) c.in_ok-searched.ensures in
    record {
      design = design;
      made = inl (budget_of words.nodes words.count, tested, c.in_ok-made.ensures.design);
      searched = stores;
      answered = subst (λ (t : List ℕ). IsAnswered Standard design 1 budget None 1 (cert_name o) None c.in_ok-work.work.status stores t) (sym (ap (λ v. v.items) c.in_ok-work.ensures.text)) stated;
      stored_is = c.in_ok-work.ensures.stores ∙ ap (λ (ss : List Stored). ss ++ stores) c.in_ok-made.ensures.stores;
    }
