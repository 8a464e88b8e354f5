use Rattle.std.proofs.Common.{length, ap, sym, subst, ◌∙◌}
use Rattle.std.proofs.lemmas.Option.{MatchOption-at_some}
use Rattle.sf_model.proofs.BlocksBelow.{once-below}
use Rattle.sf_model.specs.Tree.{HasBlocksBelow}
use Rattle.sf_cuts.specs.Packed.{IsPacked}
use Rattle.sf_cuts.specs.Shaping.{AreShapesFor}
use Rattle.sf_cuts.proofs.Common.{IsCut, tree_of}
use Rattle.sf_cuts.proofs.Reshaped.{packed_of}
use Rattle.sf_cuts.proofs.packing.packed.Goals as goal

pub reshape-requires : goal.reshape-requires
reshape-requires c =
    let t = tree_of c.in-Some.plan in
    let cut : IsCut c.args.spots.now t = MatchOption-at_some _ _ c.in-Some.plan c.in-Some.is c.in_ok-plan.ensures.cut in
    subst (λ n. HasBlocksBelow n t) (sym (ap length c.deref.ensures.value ∙ c.in_ok-shapes.ensures.shapes.one_each)) (once-below (length c.args.spots.now) t cut.each_once)

pub returns-clause-packed : goal.returns-clause-packed
returns-clause-packed c =
    let design = c.args.design.now in
    let soft = c.args.soft.now in
    let spots = c.args.spots.now in
    let t = tree_of c.in-Some.plan in
    let cut : IsCut spots t = MatchOption-at_some _ _ c.in-Some.plan c.in-Some.is c.in_ok-plan.ensures.cut in
    let shapes : AreShapesFor design soft spots c.deref.result.now = subst (AreShapesFor design soft spots) (sym c.deref.ensures.value) c.in_ok-shapes.ensures.shapes in
    subst (IsPacked design soft spots) (sym c.reshape.ensures) (packed_of design soft spots c.deref.result.now t c.requires.by_number c.requires.one_each cut shapes)
