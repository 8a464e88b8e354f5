use Rattle.std.proofs.Common.{arith}
use Rattle.std.proofs.lemmas.Map.Text.{text_keys}
use Rattle.sf_io.proofs.memory.MemShelf.add.Goals as goal

pub returns-clause-added : goal.returns-clause-added
returns-clause-added c = grind (arith, text_keys)

pub returns-clause-others : goal.returns-clause-others
returns-clause-others c = λ other differs. grind (arith, text_keys)
