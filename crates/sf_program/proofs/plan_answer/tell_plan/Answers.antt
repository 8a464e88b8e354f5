use Rattle.std.proofs.Common.{◌*◌, ◌≤◌, ◌^◌, ℕ, ap, ◌∙◌, length, arith}
use Rattle.sf_program.proofs.plan_answer.tell_plan.Goals as goal

pub push_placed-requires-clause-one_each : goal.push_placed-requires-clause-one_each
push_placed-requires-clause-one_each c = ap length c.deref.ensures.value ∙ c.in_ok-measured.ensures.one_each

area-fits : (a b : ℕ) → a ≤ 2 ^ 20 → b ≤ 2 ^ 20 → a * b ≤ 2 ^ 40
area-fits a b h k = grind arith

pub overflow_mul-report : goal.overflow_mul-report
overflow_mul-report c = omega (arith, area-fits c.in_ok-measured.measured.size.0 c.in_ok-measured.measured.size.1 c.in_ok-measured.ensures.small.0 c.in_ok-measured.ensures.small.1)
