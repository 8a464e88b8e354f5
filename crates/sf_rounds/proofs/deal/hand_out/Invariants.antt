use Rattle.std.proofs.Common.{◌<◌, length, All}
use Rattle.sf_rounds.proofs.Common.{IsStretch}
use Rattle.sf_rounds.proofs.Dealing.{IsHanding}
use Rattle.sf_rounds.proofs.deal.hand_out.Given as goal

abbrev pub invariant-loop-stretch : goal.invariant-loop-stretch
invariant-loop-stretch g l =
    IsHanding l.fn.design l.fn.jobs.items l.jobs.items l.fn.stretches.items l.stretches.items
    × (0 < length l.jobs.items)
    × All (IsStretch l.fn.design (g.B.Values.value l.fn.bounds l.fn.design)) l.stretches.items

abbrev pub decreases-loop-stretch : goal.decreases-loop-stretch
decreases-loop-stretch g l = length l.stretches.items
