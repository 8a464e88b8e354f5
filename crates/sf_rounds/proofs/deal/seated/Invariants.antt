use Rattle.std.proofs.Common.{◌≡◌, ◌+◌, ◌++◌, length, reverse}
use Rattle.sf_rounds.proofs.Dealing.{IsSeating}
use Rattle.sf_rounds.proofs.deal.seated.Given as goal

abbrev pub invariant-loop-place : goal.invariant-loop-place
invariant-loop-place g l =
    IsSeating l.fn.seat.seen l.fn.word (reverse l.fn.stretches.items) l.fn.quotas l.yielded l.jobs.items l.stretches.items l.fn.seat l.seat
    × (l.yielded ++ l.place-iterator.rest.items ≡ l.fn.places.items)
    × (l.number ≡ length l.jobs.items)
    × (length l.fn.quotas ≡ length l.jobs.items + length l.place-iterator.rest.items)
