use Rattle.std.proofs.Common.{sym, subst, ◌∙◌}
use Rattle.sf_bounds.proofs.Common.{IsAreaCostOrNone}
use Rattle.sf_bounds.proofs.PartCosts.{full-is, parts-are}
use Rattle.sf_bounds.proofs.parts.all_values.Goals as goal

pub returns-clause-parts : goal.returns-clause-parts
returns-clause-parts c =
    let d = c.args.design.now in
    let n = c.args.node.now in
    parts-are d n c.in-Some.area c.in_ok-wires.wires (subst (IsAreaCostOrNone d n) c.in-Some.is c.in_ok-area.ensures.cost) c.in_ok-wires.ensures.costs

pub returns-clause-value : goal.returns-clause-value
returns-clause-value c =
    let d = c.args.design.now in
    let n = c.args.node.now in
    full-is d n c.in-Some.area c.in_ok-wires.wires (subst (IsAreaCostOrNone d n) c.in-Some.is c.in_ok-area.ensures.cost) c.in_ok-wires.ensures.costs
    ∙ sym (c.standard_is_open.ensures d n c.requires.subproblem)
