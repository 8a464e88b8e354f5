use Rattle.std.proofs.Common.{List, map, ap, sym, subst, ◌∙◌, arith}
use Rattle.sf_parts.proofs.Common.{AllZip, first_shapeless, IsAdmitted, IsNetMade, Net, Parts, Shape, RawBlock}
use Rattle.sf_parts.proofs.Limited.{limits_kept}
use Rattle.sf_parts.proofs.Designs.{limits_hold, is_design}
use Rattle.sf_parts.proofs.build.DesignBuild.build.Goals as goal

pub placed_pads-requires : goal.placed_pads-requires
placed_pads-requires c = (limits_kept c.args.parts c.requires.admitted).places

pub invariant_of-nets_of : goal.invariant_of-nets_of
invariant_of-nets_of c = record { admitted = subst IsAdmitted (sym c.in_ok-index.ensures) c.requires.admitted }

pub new-requires-2 : goal.new-requires-2
new-requires-2 c =
    let made = subst (λ (parts : Parts). AllZip (IsNetMade parts) parts.nets c.in_ok-nets.nets) c.in_ok-index.ensures c.in_ok-nets.ensures.made in
    limits_hold c.args.parts c.args.lists.items c.args.outline c.args.weights c.in_ok-blocks.blocks c.in_ok-pads.pads c.in_ok-nets.nets
    c.requires.admitted c.requires.choices c.requires.sides c.requires.weighted
    (ap (λ (bs : List RawBlock). first_shapeless bs c.args.lists.items) (sym c.as_slice.ensures) ∙ ap (λ (ls : List (List Shape)). first_shapeless c.as_slice.result.now ls) (sym c.deref.ensures.value) ∙ c.in_ok-check_shapes.ensures.shaped)
    c.in_ok-blocks.ensures c.in_ok-pads.ensures made (omega arith) (omega arith)

pub returns-clause-built : goal.returns-clause-built
returns-clause-built c =
    let new = c.in_ok-new.ensures in
    let made = subst (λ (parts : Parts). AllZip (IsNetMade parts) parts.nets c.in_ok-nets.nets) c.in_ok-index.ensures c.in_ok-nets.ensures.made in
    is_design c.args.parts c.args.lists.items c.args.outline c.args.weights c.args.net_weights.now _ c.requires.choices (new.blocks ∙ c.in_ok-blocks.ensures) (new.pads ∙ c.in_ok-pads.ensures)
    (subst (AllZip (IsNetMade c.args.parts) c.args.parts.nets) (sym new.nets) made) new.outline new.weights (ap (map (λ (n : Net). n.weight)) new.nets ∙ c.in_ok-nets.ensures.weights) new.no_floor new.unrouted
