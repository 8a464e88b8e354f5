use Rattle.std.proofs.Common.{◌≡◌, max, take}
use Rattle.sf_bound_kit.proofs.Common.{fold, area_of_two}
use Rattle.sf_bound_kit.proofs.pairs.greatest_with.Given as goal

abbrev pub invariant-loop-other : goal.invariant-loop-other
invariant-loop-other l = l.most ≡ fold (λ n t. max n (area_of_two (l.first, t))) 0 (take l.other-index l.others)
