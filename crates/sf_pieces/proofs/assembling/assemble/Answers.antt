use Rattle.sf_pieces.proofs.Searched.{searched-tree, searched-low, searched-cert}
use Rattle.sf_pieces.proofs.assembling.assemble.Goals as goal

pub lay-requires-clause-tree : goal.lay-requires-clause-tree
lay-requires-clause-tree c =
    let s = c.requires.searched in
    (s.1, searched-tree c.args.design.now s.0 s.1 c.args.cost c.args.bound c.args.pieces.items c.in_ok-pieces.pieces.items c.in_ok-pieces.ensures s.2 s.3 s.4)

pub returns : goal.returns
returns c = λ value part entries left s.
    let design = c.args.design.now in
    let old = c.args.pieces.items in
    let new = c.in_ok-pieces.pieces.items in
    let named = c.in_ok-pieces.ensures in
    let tree = searched-tree design value part c.args.cost c.args.bound old new named entries left s in
    let low = searched-low design value part c.args.cost c.args.bound old new named entries left s in
    searched-cert design value part c.args.cost c.args.bound old new named entries left s c.args.plan c.in_ok-cert.cert (c.in_ok-cert.ensures value part tree low)
