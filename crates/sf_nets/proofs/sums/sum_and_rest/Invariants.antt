use Rattle.sf_nets.proofs.PartSums.{IsRestBefore, IsSumBefore}
use Rattle.sf_nets.proofs.sums.sum_and_rest.Given as goal

abbrev pub invariant-loop-number : goal.invariant-loop-number
invariant-loop-number l = IsSumBefore l.design l.node l.part l.number l.sum × IsRestBefore l.design l.node l.part l.number l.rest
