use Rattle.std.proofs.Common.{ℕ, List, map, option_map}
use Rattle.sf_batch.proofs.Common.{AllZip, Line, plan_seen, SaysJob, told_seen, Reads, IsUnderWay}
use Rattle.sf_batch.proofs.doing.begin_all.Given as goal

abbrev pub invariant-loop-number : goal.invariant-loop-number
invariant-loop-number g l =
    let first = g.S.Shelf.seen l.fn.shelf in
    let seen = g.S.Shelf.seen l.shelf in
    Reads first seen
    × ((lines : List Line) (faults : ℕ) → AllZip SaysJob lines (map (option_map plan_seen) l.jobs)
    → IsUnderWay first.holds lines faults first.load_faults (map told_seen l.fn.table) l.fn.team
    → IsUnderWay first.holds lines faults seen.load_faults (map told_seen l.table) l.team)
