use Rattle.std.proofs.Common.{◌≡◌, Ok, ap, sym, ◌∙◌, map}
use Rattle.sf_pool.proofs.Common.{Task}
use Rattle.sf_pool.proofs.Replaced.{replace-branching, children-are, held-at, replaced-is}
use Rattle.sf_pool.proofs.pool.Pool.turn_into.Goals as goal

pub returns : goal.returns
returns c =
    let b = c.requires.branching.1 in
    let task = c.requires.branching.0 in
    let children = c.args.children.items in
    let costs = map (λ (child : Task). child.bound) children in
    let again = held-at c.args.self.now _ c.args.worker c.from-worker.result c.index_mut.result.now c.self.view_is c.from-worker.ensures c.requires.worker c.index_mut.ensures.value ∙ (sym c.take.ensures.value ∙ c.in-Some.is) in
    let same : c.in-Some.task ≡ task = cc (b.held, again) in
    let are = children-are c.args.self.now c.args.worker c.args.how c.args.value children task b c.requires.children in
    replace-branching c.args.self.now c.args.worker c.args.how c.args.value costs task b
    ∙ ap Ok (replaced-is c.args.self.now _ c.args.worker c.args.how c.args.value costs task _ _ _ c.self.view_is
    (cc (c.put.ensures, c.reserve.ensures.items, are))
    (cc (c.take.ensures.after, c.from-worker.ensures))
    (cc (c.push_reserved.ensures.items, c.reserve-else-is_err.ensures.items, c.kind_of.ensures, same)))
