use Rattle.std.proofs.Common.{ap, sym, subst, ◌∙◌}
use Rattle.sf_bounds.proofs.Common.{part_value, IsAreaCostOrNone}
use Rattle.sf_bounds.proofs.PartCosts.{area-is, part-is}
use Rattle.sf_bounds.proofs.parts.part_value.Goals as goal

pub returns-in-Area-clause-value : goal.returns-in-Area-clause-value
returns-in-Area-clause-value c =
    let d = c.args.design.now in
    let n = c.args.node.now in
    area-is d n c.in-Some.area (subst (IsAreaCostOrNone d n) c.in-Some.is c.in_ok-area.ensures.cost) ∙ ap (part_value d n) (sym c.in-Area.is)

pub returns-in_ok-wires-in-Range-clause-value : goal.returns-in_ok-wires-in-Range-clause-value
returns-in_ok-wires-in-Range-clause-value c =
    let d = c.args.design.now in
    let n = c.args.node.now in
    part-is d n c.args.part c.in-Some.area c.in_ok-wires-in-Range.wires (subst (IsAreaCostOrNone d n) c.in-Some.is c.in_ok-area.ensures.cost) c.in_ok-wires-in-Range.ensures.cost (c.standard_is_open.ensures d n c.requires.subproblem)
