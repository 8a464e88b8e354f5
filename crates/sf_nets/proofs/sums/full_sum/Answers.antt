use Rattle.std.proofs.Common.{◌≡◌, arith, refl, sym, ◌∙◌}
use Rattle.sf_nets.proofs.Common.{no-pull}
use Rattle.sf_nets.proofs.sums.full_sum.Goals as goal

pub returns-then-design-eq0 : goal.returns-then-design-eq0
returns-then-design-eq0 c =
    let none : c.args.design.now.routes.wires ≡ 0 = omega (arith, c.if-design-eq0.true) in
    c.sum_and_rest-alone.ensures.sum ∙ sym (no-pull c.args.design.now c.args.node.now none)

pub returns : goal.returns
returns c = omega (arith, c.with_paths.ensures, c.sum_and_rest-sum.ensures.sum, c.sum_and_rest-sum.ensures.rest refl)
