use Rattle.std.proofs.Common.{◌≡◌, ◌+◌, ◌*◌, ◌^◌, ◌≤◌, drop}
use Rattle.sf_subsets.proofs.Common.{total}
use Rattle.sf_subsets.proofs.budget.total_of.Given as goal

abbrev pub invariant-loop-least : goal.invariant-loop-least
invariant-loop-least l =
    (l.sum + total (drop l.least-index l.leasts) l.left ≡ total l.leasts l.fn.set) × (l.sum ≤ l.least-index * 2 ^ 41)
