use Rattle.sf_nets.proofs.Common.{Full}
use Rattle.sf_nets.proofs.PartSums.{ArePartsBefore, IsRestBefore}
use Rattle.sf_nets.proofs.sums.parts_and_rest.Given as goal

abbrev pub invariant-loop-number : goal.invariant-loop-number
invariant-loop-number l = ArePartsBefore l.design l.node l.number l.sums × IsRestBefore l.design l.node Full l.number l.rest
