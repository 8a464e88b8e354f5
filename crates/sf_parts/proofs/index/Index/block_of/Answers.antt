use Rattle.std.proofs.Common.{◌∙◌}
use Rattle.sf_parts.proofs.Common.{RawBlock}
use Rattle.sf_parts.proofs.Tables.{place_within}
use Rattle.sf_parts.proofs.index.Index.block_of.Goals as goal

pub returns-in-Named-clause-in_range : goal.returns-in-Named-clause-in_range
returns-in-Named-clause-in_range c = place_within (λ (p : RawBlock). p.name) c.args.self.now.parts.now.blocks c.in-Named.name c.place_of.result (c.place_of.ensures ∙ c.args.self.now.of_blocks.found c.in-Named.name)
