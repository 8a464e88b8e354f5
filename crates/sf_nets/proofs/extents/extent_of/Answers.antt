use Rattle.std.proofs.Common.{ap, sym, ◌∙◌}
use Rattle.sf_nets.proofs.Common.{fold, extent_of, with_shape}
use Rattle.sf_nets.proofs.Folded.{extent_folded}
use Rattle.sf_nets.proofs.PinLoops.{fold_whole}
use Rattle.sf_nets.proofs.extents.extent_of.Goals as goal

pub returns : goal.returns
returns c =
    let whole = fold_whole with_shape c.single-extent.result c.in-Some.rest.now c.loop-shape.shape-index c.loop-shape-test.false in
    c.loop-shape.invariant ∙ whole ∙ ap (λ e. fold with_shape e c.in-Some.rest.now) c.single-extent.ensures ∙ extent_folded c.in-Some.first.now c.in-Some.rest.now ∙ ap extent_of (sym c.in-Some.ensures.cases.0)
