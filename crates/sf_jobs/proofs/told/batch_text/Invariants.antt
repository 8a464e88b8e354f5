use Rattle.std.proofs.Common.{◌≡◌, map, take}
use Rattle.sf_jobs.proofs.Common.{told_seen, batch_text}
use Rattle.sf_jobs.proofs.told.batch_text.Given as goal

abbrev pub invariant-loop-number : goal.invariant-loop-number
invariant-loop-number l = l.text.items ≡ batch_text (map told_seen (take l.number l.all))
