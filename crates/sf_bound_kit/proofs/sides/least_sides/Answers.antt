use Rattle.std.proofs.Common.{ap, sym, ◌∙◌}
use Rattle.sf_bound_kit.proofs.Common.{least_sides, fold_whole}
use Rattle.sf_bound_kit.proofs.Table.{with_least, least_folded}
use Rattle.sf_bound_kit.proofs.sides.least_sides.Goals as goal

pub returns : goal.returns
returns c =
    let whole = fold_whole with_least c.in-Some.first.now c.in-Some.rest.now c.loop-shape.shape-index c.loop-shape-test.false in
    c.loop-shape.invariant ∙ whole ∙ least_folded c.in-Some.first.now c.in-Some.rest.now ∙ ap least_sides (sym c.in-Some.ensures.cases.0)
