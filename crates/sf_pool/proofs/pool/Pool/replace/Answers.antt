use Rattle.std.proofs.Common.{◌≡◌, ℕ, List, map, ap, sym, subst, ◌∙◌}
use Rattle.sf_pool.proofs.Common.{Task, branched, held_by, kind_of, replace, AreChildren, Answers}
use Rattle.sf_pool.proofs.Core.{held_by-subproblem}
use Rattle.sf_pool.proofs.Replaced.{costs-many, nodes-of_tasks, bounds-of_tasks}
use Rattle.sf_pool.proofs.pool.Pool.replace.Goals as goal

pub children_with-requires-clause-subproblem : goal.children_with-requires-clause-subproblem
children_with-requires-clause-subproblem g c =
    held_by-subproblem c.args.design.now (g.V.Values.value c.args.values.now c.args.design.now) c.args.self.now c.args.worker c.in_ok-task.task.now c.requires.core c.in_ok-task.ensures.held

pub turn_into-requires-clause-children : goal.turn_into-requires-clause-children
turn_into-requires-clause-children g c =
    let b = c.in_ok-task.ensures in
    let nodes = branched (kind_of c.args.how) c.in_ok-task.task.now.node in
    let many = costs-many (g.V.Values.value c.args.values.now c.args.design.now) c.args.self.now c.args.worker c.args.how c.args.value c.args.costs c.in_ok-task.task.now c.requires.can b in
    subst (AreChildren c.args.how c.in-Ok.children.items) (sym b.held) (λ may. ap (map (λ (child : Task). child.node)) c.in-Ok.ensures ∙ nodes-of_tasks nodes c.args.costs many)

pub returns : goal.returns
returns g c =
    let state = c.args.self.now in
    let b = c.in_ok-task.ensures in
    let nodes = branched (kind_of c.args.how) c.in_ok-task.task.now.node in
    let many = costs-many (g.V.Values.value c.args.values.now c.args.design.now) state c.args.worker c.args.how c.args.value c.args.costs c.in_ok-task.task.now c.requires.can b in
    let same : map (λ (child : Task). child.bound) c.in-Ok.children.items ≡ c.args.costs = ap (map (λ (child : Task). child.bound)) c.in-Ok.ensures ∙ bounds-of_tasks nodes c.args.costs many in
    subst (λ (costs : List ℕ). Answers (replace state c.args.worker c.args.how c.args.value costs (held_by state c.args.worker)) state c.turn_into.result c.turn_into.new.self) same c.turn_into.ensures
