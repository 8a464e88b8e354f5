use Rattle.std.proofs.Common.{rules, append_assoc}
use Rattle.sf_designs.proofs.refusals.with_word.Goals as goal

pub returns : goal.returns
returns c = search (rules, append_assoc)
