use Rattle.std.proofs.Common.{◌∙◌}
use Rattle.sf_parts.proofs.Common.{pad_names}
use Rattle.sf_parts.proofs.Tables.{table_has}
use Rattle.sf_parts.proofs.index.Index.is_pad.Goals as goal

pub returns : goal.returns
returns c = c.has.ensures ∙ table_has c.args.self.now.pads (pad_names c.args.self.now.parts.now.pads) c.args.self.now.of_pads c.args.name.now
