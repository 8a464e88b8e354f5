use Rattle.std.proofs.Common.{sym, subst}
use Rattle.sf_frames.proofs.Common.{AreGroupCurves}
use Rattle.sf_frames.proofs.GroupAreas.{few_groups, small_groups, needed_or_none}
use Rattle.sf_frames.proofs.anew.Anew.needed_area.Goals as goal

pub area_part-requires-clause-few : goal.area_part-requires-clause-few
area_part-requires-clause-few c =
    few_groups c.args.design.now c.args.node.now c.deref.result.now c.requires (subst (AreGroupCurves c.args.design.now c.args.node.now) (sym c.deref.ensures.value) c.in_ok-group_curves.ensures)

pub area_part-requires-clause-small : goal.area_part-requires-clause-small
area_part-requires-clause-small c =
    small_groups c.args.design.now c.args.node.now c.deref.result.now (subst (AreGroupCurves c.args.design.now c.args.node.now) (sym c.deref.ensures.value) c.in_ok-group_curves.ensures)

pub returns : goal.returns
returns c =
    needed_or_none c.args.design.now c.args.node.now c.deref.result.now (subst (AreGroupCurves c.args.design.now c.args.node.now) (sym c.deref.ensures.value) c.in_ok-group_curves.ensures) c.area_part.result c.area_part.ensures
