use Rattle.std.proofs.Common.{◌≤◌, ◌^◌}
use Rattle.sf_subsets.proofs.Common.{All}
use Rattle.sf_subsets.proofs.Blocks.{AreFirstLeasts}
use Rattle.sf_subsets.proofs.leasts.leasts_of.Given as goal

abbrev pub invariant-loop-block : goal.invariant-loop-block
invariant-loop-block l = AreFirstLeasts l.design l.block l.leasts.items × All (λ n. n ≤ 2 ^ 41) l.leasts.items
