use Rattle.std.proofs.Common.{◌∙◌}
use Rattle.sf_parts.proofs.Common.{RawPad}
use Rattle.sf_parts.proofs.Tables.{place_within}
use Rattle.sf_parts.proofs.index.Index.pad_of.Goals as goal

pub returns-in-Named-clause-in_range : goal.returns-in-Named-clause-in_range
returns-in-Named-clause-in_range c = place_within (λ (p : RawPad). p.name) c.args.self.now.parts.now.pads c.in-Named.name c.place_of.result (c.place_of.ensures ∙ c.args.self.now.of_pads.found c.in-Named.name)
