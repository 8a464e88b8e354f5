use Rattle.std.proofs.Common.{◌-◌, ◌^◌, ◌≤◌}
use Rattle.sf_subsets.proofs.least.least_rising.Given as goal

abbrev pub invariant-loop-limit : goal.invariant-loop-limit
invariant-loop-limit l = (l.limit ≤ 2 ^ 48) × (l.blocks ≤ l.limit)

abbrev pub decreases-loop-limit : goal.decreases-loop-limit
decreases-loop-limit l = l.most - l.limit
