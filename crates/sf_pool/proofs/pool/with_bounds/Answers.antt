use Rattle.std.proofs.Common.{◌∙◌, rules}
use Rattle.std.proofs.lemmas.Result.{IfOk-weaker}
use Rattle.std.proofs.lemmas.Iterator.{YieldsList-from_map, YieldsList-from_zip, items_from_collect}
use Rattle.std.proofs.lemmas.Iterator.Adapters.{YieldsList-from_vec}
use Rattle.std.proofs.lemmas.Iterator.Consumers.{YieldsList-at}
use Rattle.sf_pool.proofs.Zipped.{task_of, zip_tasks}
use Rattle.sf_pool.proofs.pool.with_bounds.Goals as goal

pub returns : goal.returns
returns c =
    let nodes = YieldsList-at c.zip.ensures.first (YieldsList-from_vec c.args.nodes.items (search rules) (search rules)) in
    let costs = YieldsList-from_vec {s = c.zip.result.b} c.args.costs.items (search rules) (search rules) in
    let pairs = YieldsList-at c.map.ensures.source (YieldsList-from_zip nodes costs) in
    let all = items_from_collect c.collect.result c.collect.ensures.ran (YieldsList-from_map _ task_of pairs c.map.ensures.closure (λ x r q k. search rules)) in
    IfOk-weaker c.collect.result _ _ (λ made h. h ∙ zip_tasks c.args.nodes.items c.args.costs.items) all
