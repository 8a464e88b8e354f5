use Rattle.std.proofs.Common.{length, All}
use Rattle.crossbeam_deque.specs.Handles.{stealer_deque, view as pass_view}
use Rattle.sf_frontier.proofs.Common.{ThiefView}
use Rattle.sf_frontier.proofs.Teams.{IsSettling}
use Rattle.sf_frontier.proofs.settle.finish.Given as goal

abbrev pub invariant-loop-place : goal.invariant-loop-place
invariant-loop-place g l =
    let thief = l.first-inside in
    let first : ThiefView = record { deque = record { id = stealer_deque thief.stealer; first_slots = thief.first_slots; parts = 2 }; taken = (pass_view thief.pass).taken; empty_takes = thief.empty_takes } in
    IsSettling l.fn.places.items l.places.items l.owner first l.left.items × All g.T.Served.serves l.left.items

abbrev pub decreases-loop-place : goal.decreases-loop-place
decreases-loop-place g l = length l.places.items
