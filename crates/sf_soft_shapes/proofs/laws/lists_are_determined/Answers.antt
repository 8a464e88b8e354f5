use Rattle.sf_soft_shapes.proofs.Determined.{one-list, all-lists, one-fault, fault-empty}
use Rattle.sf_soft_shapes.proofs.laws.lists_are_determined.Goals as goal

pub returns : goal.returns
returns c = record { list = one-list; lists = all-lists; fault = one-fault; empty = fault-empty }
