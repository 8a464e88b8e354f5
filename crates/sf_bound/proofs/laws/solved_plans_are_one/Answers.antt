use Rattle.std.proofs.Common.{arith, inl, inr, subst}
use Rattle.sf_bound.proofs.Common.{cases_eq, IsTraceOf, IsLeastArea, complete-normal, subproblem-spans}
use Rattle.sf_bound.proofs.Whole.{solved-complete}
use Rattle.sf_bound.proofs.OnePlan.{one-plan}
use Rattle.sf_bound.proofs.Whole.{solved_single}
use Rattle.sf_bound.proofs.laws.solved_plans_are_one.Goals as goal

pub returns : goal.returns
returns c = λ design node first second y z sub solved a b traced other.
    let complete = solved-complete design node solved in
    elim (cases_eq design.weights.wire 0) [
      | inl zero ↦ (let s = traced zero in
          let t = other zero in
          let curve = c.traces_are_one.ensures.curve design node.tokens node.spans t.points s.points t.curve s.curve in
          let point = c.traces_are_one.ensures.least design node.tokens node.spans s.points t.point s.point s.curve (subst (λ v. IsLeastArea v t.point) curve t.least) s.least in
          c.traces_are_one.ensures.trace design node.tokens node.spans s.point first second
          (complete-normal design node sub (subproblem-spans design node sub) complete) a.one_each b.one_each
          s.trace (subst (λ v. IsTraceOf design node.tokens node.spans v second) point t.trace))
      | inr some ↦ one-plan design node first second y z sub complete (solved_single design node solved (omega (arith, some))) a b
    ]
