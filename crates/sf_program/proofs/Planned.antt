-- An answered search is what `plan` answers.
use Rattle.std.proofs.Common.{◌≤◌, ℕ, List, Option, Some, None, IfSome, Ok, arith, refl, subst}
use Rattle.sf_program.proofs.Common.{Beginning, Contents, Design, Expr, IsAnswered, IsNoDearer, IsPlanned, IsSearchInput, PlanInput, PlanOptions, Status, Stored, begun_plan, block_count, budget_of}
use Rattle.sf_known.proofs.Beginning.{no-dearer}

-- what is at most the cost of a plan is at most that of one than which the plan is no dearer
below-begun : (begin start : Option (Expr × ℕ)) (z : ℕ) → IsNoDearer begin start → IfSome start (λ plan. z ≤ plan.1) → IfSome begin (λ plan. z ≤ plan.1)
below-begun None start z h below = tt
below-begun (Some p) start z h below =
    let q = h p refl in
    let at : z ≤ q.0.1 = subst (λ (s : Option (Expr × ℕ)). IfSome s (λ plan. z ≤ plan.1)) q.1 below in
    omega (arith, at, q.2)

-- the answer of the search of what was read is that of `plan`
pub is-planned : (o : PlanOptions) (before : Option Contents) (read : Design) (begin : Option Beginning) (design : Design) (start : Option (Expr × ℕ)) (status : Status) (stored : List Stored) (printed : List ℕ)
    → PlanInput before o (Ok (read, begin)) → IsSearchInput o.starts o.bounds read begin design start
    → IsAnswered o.bounds design o.workers (budget_of o.nodes (block_count design)) start o.design.per_unit o.cert o.pl_out status stored printed → IsPlanned o before status stored printed
is-planned o before read begin design start status stored printed stands begun answered = record {
  read = read;
  begin = begin;
  stands = stands;
  design = design;
  start = start;
  begun = begun;
  answered = answered;
  no_dearer = below-begun (begun_plan begin) start answered.cert.cost (no-dearer o.starts o.bounds read begin design start begun) answered.searched.lower;
}
