use Rattle.std.proofs.Common.{◌≡◌, length}
use Rattle.sf_yal.proofs.Common.{words, is_blank_byte, used_in, used_all}
use Rattle.sf_yal.proofs.nets.Used.use_signals.Given as goal

abbrev pub invariant-loop-signal : goal.invariant-loop-signal
invariant-loop-signal l = used_all l.instance (used_in l.self) (words is_blank_byte l.rest) ≡ used_all l.instance (used_in l.fn.self) (words is_blank_byte l.signals)

abbrev pub decreases-loop-signal : goal.decreases-loop-signal
decreases-loop-signal l = length (words is_blank_byte l.rest)
