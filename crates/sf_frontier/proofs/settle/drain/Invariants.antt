use Rattle.std.proofs.Common.{◌≡◌, List, ◌-◌, ◌++◌, length, reverse, All}
use Rattle.sf_frontier.proofs.Common.{Stretch}
use Rattle.sf_frontier.proofs.settle.drain.Given as goal

abbrev pub invariant-loop-owner : goal.invariant-loop-owner
invariant-loop-owner g l =
    (l.owner.deque.parts ≡ 1) × (l.owner.put ≡ l.fn.owner.put) × (l.owner.stolen ≡ l.fn.owner.stolen)
    × ((more : List Stretch) × (l.owner.taken ≡ l.fn.owner.taken ++ more) × (l.fn.owner.stack ≡ l.owner.stack ++ reverse more) × (l.left.items ≡ l.fn.left.items ++ more) × All g.T.Served.serves more)

abbrev pub decreases-loop-owner : goal.decreases-loop-owner
decreases-loop-owner g l = length l.owner.put - length l.owner.taken
