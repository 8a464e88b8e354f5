use Rattle.std.proofs.Common.{◌∙◌}
use Rattle.sf_bounds.proofs.NetTotal.{same-ranges, same-pairs}
use Rattle.sf_bounds.proofs.net_total.total_parts.Goals as goal

pub returns : goal.returns
returns c =
    let D = c.args.design.now in
    record {
      range = c.requires.kept.ranges ∙ same-ranges D c.args.node.now c.requires.subproblem c.requires.whole;
      pair = c.requires.kept.pairs ∙ same-pairs D c.args.node.now c.requires.subproblem c.requires.whole;
      hull = c.full_and_hull-full.ensures.hull;
      full = c.full_and_hull-full.ensures.full;
    }
