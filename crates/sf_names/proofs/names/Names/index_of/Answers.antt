use Rattle.std.proofs.Common.{◌∙◌, ap}
use Rattle.sf_names.proofs.Common.{index_of}
use Rattle.sf_names.proofs.Indexes.{position_index}
use Rattle.sf_names.proofs.names.Names.index_of.Goals as goal

pub returns-clause-value : goal.returns-clause-value
returns-clause-value c = c.get_index_of.ensures.index ∙ position_index c.args.name.now c.self.inside.set.keys ∙ ap (index_of c.args.name.now) c.self.view_is
