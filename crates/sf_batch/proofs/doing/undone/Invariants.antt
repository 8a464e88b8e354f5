use Rattle.std.proofs.Common.{◌≡◌, All, length}
use Rattle.sf_batch.proofs.Common.{told_seen, LacksMemory}
use Rattle.sf_batch.proofs.doing.undone.Given as goal

abbrev pub invariant-loop : goal.invariant-loop
invariant-loop l = (length l.table.items ≡ l.counter) × All (λ answer. LacksMemory (told_seen answer)) l.table.items
