use Rattle.std.proofs.Common.{◌≤◌, sym, subst, ◌∙◌, arith}
use Rattle.sf_pool.proofs.Common.{State}
use Rattle.sf_pool.proofs.Replaced.{replace-not_below, replace-no_step, held-at}
use Rattle.sf_pool.proofs.pool.Pool.branching.Goals as goal

pub returns-then-task-value : goal.returns-then-task-value
returns-then-task-value c =
    let held = held-at c.args.self.now _ c.args.worker c.from-worker.result c.index.result.now c.self.view_is c.from-worker.ensures c.requires c.index.ensures ∙ c.in-Some.is in
    let low : c.self.inside.word ≤ c.args.value = omega arith in
    let fresh = subst (λ (s : State). s.word ≤ c.args.value) c.self.view_is low in
    λ costs. replace-not_below c.args.self.now c.args.worker c.args.how c.args.value costs _ c.in-Some.task held fresh (omega arith)

pub returns-then-not-may_branch : goal.returns-then-not-may_branch
returns-then-not-may_branch c =
    let held = held-at c.args.self.now _ c.args.worker c.from-worker.result c.index.result.now c.self.view_is c.from-worker.ensures c.requires c.index.ensures ∙ c.in-Some.is in
    let low : c.self.inside.word ≤ c.args.value = omega arith in
    let fresh = subst (λ (s : State). s.word ≤ c.args.value) c.self.view_is low in
    λ costs. replace-no_step c.args.self.now c.args.worker c.args.how c.args.value costs _ c.in-Some.task held fresh (omega arith) (sym c.may_branch.ensures ∙ c.if-not-may_branch.true)

pub returns : goal.returns
returns c =
    let held = held-at c.args.self.now _ c.args.worker c.from-worker.result c.index.result.now c.self.view_is c.from-worker.ensures c.requires c.index.ensures ∙ c.in-Some.is in
    let low : c.self.inside.word ≤ c.args.value = omega arith in
    record {
      held = held;
      fresh = subst (λ (s : State). s.word ≤ c.args.value) c.self.view_is low;
      below = omega arith;
      may = sym c.may_branch.ensures ∙ c.if-not-may_branch.false;
    }
