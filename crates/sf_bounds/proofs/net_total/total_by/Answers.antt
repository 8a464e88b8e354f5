use Rattle.std.proofs.Common.{◌∙◌, ap, sym}
use Rattle.sf_bounds.proofs.Common.{wires_by, changed}
use Rattle.sf_bounds.proofs.net_total.total_by.Goals as goal

pub returns-in-Hull : goal.returns-in-Hull
returns-in-Hull c =
    c.full_and_hull-full.ensures.hull ∙ ap (λ p. wires_by c.args.design.now c.args.node.now (changed p)) (sym c.in-Hull.is)

pub returns-in-Full : goal.returns-in-Full
returns-in-Full c =
    c.full_and_hull-full.ensures.full ∙ ap (λ p. wires_by c.args.design.now c.args.node.now (changed p)) (sym c.in-Full.is)
