use Rattle.std.proofs.Common.{◌∙◌}
use Rattle.sf_gen.proofs.Common.{start}
use Rattle.sf_gen.proofs.Generator.{first}
use Rattle.sf_gen.proofs.drawn.generator.Goals as goal

pub returns : goal.returns
unfolding start
returns c = c.new.ensures ∙ first c.args.seed
