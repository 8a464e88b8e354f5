use Rattle.std.proofs.Common.{length}
use Rattle.sf_cert_text.proofs.Common.{words, is_blank_byte}
use Rattle.sf_cert_text.proofs.PathReads.{IsSaying}
use Rattle.sf_cert_text.proofs.path_reading.steps_said.Given as goal

abbrev pub invariant-loop-net : goal.invariant-loop-net
invariant-loop-net l = IsSaying l.line l.steps.items l.rest

abbrev pub decreases-loop-net : goal.decreases-loop-net
decreases-loop-net l = length (words is_blank_byte l.rest)
