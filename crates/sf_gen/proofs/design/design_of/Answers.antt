use Rattle.std.proofs.Common.{length, ap, ◌∙◌, arith}
use Rattle.sf_gen.proofs.Common.{length-map-range_with_len, net_count, ends_at}
use Rattle.sf_gen.proofs.Counts.{few_nets}
use Rattle.sf_gen.proofs.design.design_of.Goals as goal

pub nets_text-requires : goal.nets_text-requires
nets_text-requires c =
    let seed = c.args.seed in
    let n = c.args.count in
    let drawn = c.in_ok-ends.ensures seed (c.in_ok-sizes.ensures.moved seed c.generator-rng.ensures) in
    omega (arith, ap length (c.deref-2.ensures.value ∙ drawn), length-map-range_with_len (ends_at seed n) 0 (net_count n), few_nets n c.requires.few)
