use Rattle.sf_bound_kit.proofs.both.BothBounds.all_values.Goals as goal

pub returns-clause-parts : goal.returns-clause-parts
returns-clause-parts g c =
    c.greater_parts.ensures (g.A.Bounds.part_value c.args.self.now.first c.args.design.now c.args.node.now) (g.B.Bounds.part_value c.args.self.now.second c.args.design.now c.args.node.now)
    c.in_ok-first.ensures.parts c.in_ok-second.ensures.parts
