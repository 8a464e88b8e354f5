use Rattle.std.proofs.Common.{◌∙◌}
use Rattle.sf_parts.proofs.Common.{block_names}
use Rattle.sf_parts.proofs.Tables.{table_has}
use Rattle.sf_parts.proofs.index.Index.is_block.Goals as goal

pub returns : goal.returns
returns c = c.has.ensures ∙ table_has c.args.self.now.blocks (block_names c.args.self.now.parts.now.blocks) c.args.self.now.of_blocks c.args.name.now
