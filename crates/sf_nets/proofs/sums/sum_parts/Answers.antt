use Rattle.std.proofs.Common.{◌≡◌, arith, sym, ◌∙◌}
use Rattle.sf_nets.proofs.Common.{no-pull}
use Rattle.sf_nets.proofs.sums.sum_parts.Goals as goal

pub returns-then-design-eq0 : goal.returns-then-design-eq0
returns-then-design-eq0 c =
    let none : c.args.design.now.routes.wires ≡ 0 = omega (arith, c.if-design-eq0.true) in
    let parts = c.parts_and_rest.ensures.parts in
    record {
      range = parts.range;
      pair = parts.pair;
      hull = parts.hull;
      full = parts.full ∙ sym (no-pull c.args.design.now c.args.node.now none);
    }

pub returns : goal.returns
returns c =
    let e = c.parts_and_rest-rest.ensures in
    record {
      range = e.parts.range;
      pair = e.parts.pair;
      hull = e.parts.hull;
      full = omega (arith, c.with_paths.ensures, e.parts.full, e.rest);
    }
