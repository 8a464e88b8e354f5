use Rattle.std.proofs.Common.{◌≡◌, arith, sym, ◌∙◌}
use Rattle.sf_standard.proofs.PathWires.{no-pull}
use Rattle.sf_bounds.proofs.net_total.full_and_hull.Goals as goal

pub returns-then-design-eq0-clause-full : goal.returns-then-design-eq0-clause-full
returns-then-design-eq0-clause-full c =
    let none : c.args.design.now.routes.wires ≡ 0 = omega (arith, c.if-design-eq0.true) in
    c.totals-alone.ensures.sum ∙ sym (no-pull c.args.design.now c.args.node.now none)
