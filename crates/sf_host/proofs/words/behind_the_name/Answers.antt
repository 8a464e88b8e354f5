use Rattle.std.proofs.Common.{rules}
use Rattle.std.specs.Vec.Iter.{into_iter_items}
use Rattle.std.proofs.lemmas.Iterator.{items_from_collect}
use Rattle.std.proofs.lemmas.Iterator.Adapters.{YieldsList-from_skip, YieldsList-from_vec}
use Rattle.std.proofs.lemmas.Iterator.Consumers.{YieldsList-at}
use Rattle.sf_host.proofs.words.behind_the_name.Goals as goal

pub returns : goal.returns
returns c =
    let all = YieldsList-from_vec (into_iter_items c.args.all) (search rules) (search rules) in
    items_from_collect c.collect.result c.collect.ensures.ran (YieldsList-from_skip 1 (YieldsList-at c.skip.ensures.source all) c.skip.ensures.count)
