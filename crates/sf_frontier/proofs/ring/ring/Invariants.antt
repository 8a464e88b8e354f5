use Rattle.std.proofs.Common.{◌≡◌, ◌+◌, ◌≤◌, length, All}
use Rattle.sf_frontier.proofs.Common.{HasSlots}
use Rattle.sf_frontier.proofs.Teams.{IsGrowing}
use Rattle.sf_frontier.proofs.ring.ring.Given as goal

abbrev pub invariant-loop : goal.invariant-loop
invariant-loop g l = IsGrowing l.places.items l.owner l.fn.first.deque × (length l.places.items + 1 ≡ l.counter) × All (HasSlots 64) l.places.items × (64 ≤ l.owner.deque.first_slots)
