use Rattle.std.proofs.Common.{take}
use Rattle.sf_subsets.proofs.Common.{AddsSmall}
use Rattle.sf_subsets.proofs.gathering.push_small.Given as goal

abbrev pub invariant-loop-size : goal.invariant-loop-size
invariant-loop-size l = AddsSmall l.limit l.initial.found.items (take l.size-index l.sizes) l.found.items
