use Rattle.std.proofs.Common.{ap, sym, ◌∙◌}
use Rattle.sf_gen.proofs.Common.{soft_count}
use Rattle.sf_gen.proofs.Counts.{soft_of_hard, soft_of_mixed}
use Rattle.sf_gen.proofs.blocks.soft_among.Goals as goal

pub returns-in-Hard : goal.returns-in-Hard
returns-in-Hard c = soft_of_hard c.args.count ∙ ap (λ k. soft_count k c.args.count) (sym c.in-Hard.is)

pub returns-in-Mixed : goal.returns-in-Mixed
returns-in-Mixed c = soft_of_mixed c.args.count ∙ ap (λ k. soft_count k c.args.count) (sym c.in-Mixed.is)
